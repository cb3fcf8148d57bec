use Rattle.std.proofs.Common.{◌≡◌, ◌≤◌, ◌+◌, ◌++◌, [], ℕ, List, length, take, get_or, refl, sym, ap, subst, ◌∙◌, arith, append_assoc, length-append}
use Rattle.std.specs.Prelude.{flat_map}
use Rattle.wal.specs.Spelling.{dirty_page}
use Rattle.journal.specs.declared.entries.PageEntry.{PageEntry}
use Rattle.journal.specs.Listed.{listed_dirty, dirty_listed}
use Rattle.journal.specs.Writing.{Begins}
use Rattle.journal.proofs.Flat.{flat_take, flat_within, flat_length, flat_append}
use Rattle.journal.proofs.checkpoints.put_dirties.Goals as goal

blank : PageEntry
blank = record { page = record { lsn = 0; number = 0; slots = [] }; rec_lsn = 0; writers = [] }

module _ (es : List PageEntry) (i : ℕ) (lt : i + 1 ≤ length es) where
  more : dirty_listed (take (i + 1) es) ≡ dirty_listed (take i es) ++ listed_dirty (get_or es i blank)
  more = flat_take listed_dirty es i blank (omega (arith, lt))

  count : length (dirty_listed (take (i + 1) es)) ≡ length (dirty_listed (take i es)) + length (listed_dirty (get_or es i blank))
  count = ap length more ∙ length-append (dirty_listed (take i es)) (listed_dirty (get_or es i blank))

pub put_dirty-end-requires : goal.put_dirty-end-requires
unfolding blank
put_dirty-end-requires c =
    let n = count c.args.pages.now c.loop-held.held-index (omega (arith, c.loop-held-test.true)) in
    let all = flat_within listed_dirty (c.loop-held.held-index + 1) c.args.pages.now in
    let size : length c.loop-held.out ≡ length c.args.out.now = c.loop-held.auto.out in
    omega (arith, c.loop-held.invariant.end, c.requires, n, all, size)

pub loop-held-preserved : goal.loop-held-preserved
unfolding blank
loop-held-preserved c =
    let i : ℕ = c.loop-held.held-index in
    let es : List PageEntry = c.args.pages.now in
    let lt : i + 1 ≤ length es = omega (arith, c.loop-held-test.true) in
    let n = count es i lt in
    record {
      end = omega (arith, c.loop-held.invariant.end, c.put_dirty-end.ensures.end, n);
      text = λ text before len h.
          (let a : List ℕ = flat_map dirty_page (dirty_listed (take i es)) in
          let b : List ℕ = flat_map dirty_page (listed_dirty (get_or es i blank)) in
          let first = c.loop-held.invariant.text text before len h in
          let long : length (text ++ a) ≡ c.loop-held.end = omega (arith, len, length-append text a, flat_length dirty_page 12 (λ d. refl) (dirty_listed (take i es)), c.loop-held.invariant.end) in
          let second = c.put_dirty-end.ensures.text (text ++ a) before long first in
          let both : (text ++ a) ++ b ≡ text ++ flat_map dirty_page (dirty_listed (take (i + 1) es)) = append_assoc text a b ∙ ap (λ (xs : List ℕ). text ++ xs) (sym (ap (flat_map dirty_page) (more es i lt) ∙ flat_append dirty_page (dirty_listed (take i es)) (listed_dirty (get_or es i blank)))) in
          subst (λ t. Begins t before c.put_dirty-end.new.out) both second);
    }
