use Rattle.std.proofs.Common.{◌≡◌, ◌+◌, ◌<◌, ◌≤◌, cond, eqb, ◌++◌, ◌∷◌, [], List, ℕ, length, map, Some, sym, ap, ap₂, subst, ◌∙◌, arith}
use Rattle.std.proofs.lemmas.Result.{err_from_is_err_and}
use Rattle.std.proofs.lemmas.List.{map_push, length-map}
use Rattle.std.proofs.lemmas.List.Elements.{All-push}
use Rattle.wal.specs.Content.{content}
use Rattle.wal.specs.Spelling.{Fits}
use Rattle.log_laws.specs.Records.{LogRecord, history, last_lsn, base_lsn, record_at}
use Rattle.undo.specs.Gathered.{IsGathered, gathered_log, link_in, place_of}
use Rattle.undo.proofs.Chains.{gathered_last, gathered_base, gathered_more, gathered_same, place_of-changed, placed_more, kept_more}
use Rattle.undo.proofs.gathered.Gathered.keep.Goals as goal

pub returns-in_err-insert-clause-base : goal.returns-in_err-insert-clause-base
returns-in_err-insert-clause-base c =
    let inside = c.self.inside in
    gathered_base inside.base inside.count c.insert.new.self.entries (map content c.push.new.self.items) ∙ sym (gathered_base inside.base inside.count inside.places.entries (map content inside.records.items)) ∙ ap (λ l. base_lsn (history l)) c.self.view_is

pub returns-in_err-insert-clause-last : goal.returns-in_err-insert-clause-last
returns-in_err-insert-clause-last c =
    let inside = c.self.inside in
    gathered_last inside.base inside.count c.insert.new.self.entries (map content c.push.new.self.items) ∙ sym (gathered_last inside.base inside.count inside.places.entries (map content inside.records.items)) ∙ ap (λ l. last_lsn (history l)) c.self.view_is

pub returns-in_err-insert-clause-unchanged : goal.returns-in_err-insert-clause-unchanged
returns-in_err-insert-clause-unchanged c =
    let inside = c.self.inside in
    let exit = err_from_is_err_and c.from_residual-in_err-insert.result c.from_residual-in_err-insert.ensures.1 in
    rw exit.1
    (ap₂ (gathered_log inside.base inside.count) c.in_err-insert.ensures.err (ap (map content) c.in_ok-push.ensures.items ∙ map_push content inside.records.items c.args.link)
    ∙ gathered_same inside.base inside.count inside.places.entries (map content inside.records.items) (content c.args.link) c.self.invariant.placed
    ∙ c.self.view_is)

pub returns-clause-base : goal.returns-clause-base
returns-clause-base c =
    let inside = c.self.inside in
    gathered_base inside.base inside.count c.insert.new.self.entries (map content c.push.new.self.items) ∙ sym (gathered_base inside.base inside.count inside.places.entries (map content inside.records.items)) ∙ ap (λ l. base_lsn (history l)) c.self.view_is

pub returns-clause-last : goal.returns-clause-last
returns-clause-last c =
    let inside = c.self.inside in
    gathered_last inside.base inside.count c.insert.new.self.entries (map content c.push.new.self.items) ∙ sym (gathered_last inside.base inside.count inside.places.entries (map content inside.records.items)) ∙ ap (λ l. last_lsn (history l)) c.self.view_is

-- the links, and one more
links_more : (c : goal.In_ok-insert) → map content c.push.new.self.items ≡ map content c.self.inside.records.items ++ content c.args.link ∷ []
links_more c = ap (map content) c.in_ok-push.ensures.items ∙ map_push content c.self.inside.records.items c.args.link

-- the place of the new link
changed : (c : goal.In_ok-insert) (n : ℕ) → place_of n c.insert.new.self.entries ≡ cond (eqb c.args.lsn n) (Some (length (map content c.self.inside.records.items))) (place_of n c.self.inside.places.entries)
changed c n =
    let long : c.len-place.result ≡ length (map content c.self.inside.records.items) = omega (arith, c.len-place.ensures, length-map c.self.inside.records.items content, c.self.inside.records.ok.0) in
    place_of-changed n c.args.lsn c.self.inside.places.entries c.insert.new.self.entries (Some c.len-place.result) (c.in_ok-insert.ensures.updates.0 n)
    ∙ ap (λ k. cond (eqb c.args.lsn n) (Some k) (place_of n c.self.inside.places.entries)) long

pub invariant_of-self-2 : goal.invariant_of-self-2
invariant_of-self-2 c =
    let inside = c.self.inside in
    let links = map content inside.records.items in
    subst (λ (xs : List LogRecord). IsGathered inside.base inside.count c.insert.new.self.entries xs) (sym (links_more c))
    (record {
      starts = c.self.invariant.starts;
      room = c.self.invariant.room;
      placed = λ n place there. placed_more inside.places.entries c.insert.new.self.entries links (content c.args.link) c.args.lsn n place (c.self.invariant.placed n) (changed c n) there;
      fits = All-push Fits links (content c.args.link) c.self.invariant.fits c.requires.fits;
    })

pub returns-clause-kept : goal.returns-clause-kept
returns-clause-kept c = λ n.
    let inside = c.self.inside in
    let links = map content inside.records.items in
    let from : inside.base < c.args.lsn =
    omega (arith, c.requires.from, sym (gathered_base inside.base inside.count inside.places.entries links) ∙ ap (λ l. base_lsn (history l)) c.self.view_is) in
    let to : c.args.lsn ≤ inside.base + inside.count =
    omega (arith, c.requires.to, sym (gathered_last inside.base inside.count inside.places.entries links) ∙ ap (λ l. last_lsn (history l)) c.self.view_is) in
    ap (λ (xs : List LogRecord). record_at (history (gathered_log inside.base inside.count c.insert.new.self.entries xs)) n) (links_more c)
    ∙ gathered_more inside.base inside.count c.args.lsn n inside.places.entries c.insert.new.self.entries links (content c.args.link) from to
    (kept_more inside.places.entries c.insert.new.self.entries links (content c.args.link) c.args.lsn n (c.self.invariant.placed n) (changed c n))
    ∙ ap (λ l. cond (eqb c.args.lsn n) (Some (link_in (content c.args.link))) (record_at (history l) n)) c.self.view_is
