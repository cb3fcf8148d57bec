-- A log that is read on, from the last of the marks that were found of it.
use Rattle.std.proofs.Common.{◌≡◌, ℕ, zero, suc, drop, ◌+◌, ◌-◌, ◌<◌, ◌≤◌, List, [], ◌∷◌, ◌++◌, Option, Some, None, Ok, length, get_or, refl, sym, ap, ◌∙◌, subst, inl, inr, arith, length-append}
use Rattle.std.specs.Io.KnownBytes.{Keeps}
use Rattle.std.proofs.lemmas.Bool.{cases_lt}
use Rattle.std.proofs.lemmas.Grind.{get_or_after_one}
use Rattle.std.proofs.lemmas.List.{get_or_append_left, length-drop}
use Rattle.std.proofs.Math.Seq.{get_or-append_right, get_or-append_seam}
use Rattle.log_laws.specs.Records.{LogContent}
use Rattle.device.specs.Reread.{IsReadThrough}
use Rattle.pieces.specs.declared.mark.Mark.{Mark}
use Rattle.pieces.specs.Pieces.{IsFirstMark, IsMark}
use Rattle.passes.specs.Marks.{AreInReach, IsInReach}
use Rattle.passes.specs.declared.pass.Pass.{Ghosts as Pass}
use Rattle.passes.specs.declared.read_on.Reading.{Reading}
use Rattle.passes.specs.ReadOn.{AreMarksTo, KeepsMarks, IsReadyAfter, ReadsOn, ReadsToEnd, EndsAtLast, ReachesLast}
use Rattle.passes.specs.Calls.{HasRead, HasReadOn}
use Rattle.passes.proofs.Calls.{still, read_none, reads_on}

-- THE LAST MARK
pub mark_last : (text : List ℕ) (marks : List Mark) (log : LogContent) (end : Mark) → ((d : Mark) → end ≡ get_or marks (length marks - 1) d) → AreMarksTo text marks log → IsMark text log end
mark_last text marks log end is marked = subst (IsMark text log) (sym (is end)) (marked.last end)

-- ONE MORE MARK
module _ (marks : List Mark) (next : Mark) where
  count : length (marks ++ next ∷ []) ≡ suc (length marks)
  count = omega (arith, length-append marks (next ∷ []))

  last : (k : ℕ) (d : Mark) → k ≡ length marks → get_or (marks ++ next ∷ []) k d ≡ next
  last k d is = ap (λ n. get_or (marks ++ next ∷ []) n d) is ∙ get_or-append_seam marks next [] d

  -- after the log's next records
  pub marks_more : (text : List ℕ) (before after : LogContent) → IsMark text after next → AreMarksTo text marks before → AreMarksTo text (marks ++ next ∷ []) after
  marks_more text before after is marked = record {
    each = λ k d lt.
        elim (cases_lt k (length marks)) [
          | inl less ↦ (let own = marked.each k d less in (own.0, subst (IsMark text own.0) (sym (get_or_append_left marks (next ∷ []) d k less)) own.1))
          | inr here ↦ (after, subst (IsMark text after) (sym (last k d (omega (arith, here, lt, count)))) is)
        ];
    last = λ d. subst (IsMark text after) (sym (last (length (marks ++ next ∷ []) - 1) d (omega (arith, count)))) is;
  }

  -- in reach of the last one
  pub keeps_more : (room : ℕ) (end : Mark) → 0 < length marks → ((d : Mark) → end ≡ get_or marks (length marks - 1) d) → IsInReach room end next → KeepsMarks room marks (marks ++ next ∷ [])
  keeps_more room end some is within = record {
    first = λ d. get_or_append_left marks (next ∷ []) d 0 some;
    reach = λ size le reach k d lt.
        elim (cases_lt (k + 1) (length marks)) [
          | inl less ↦
              omega (
                arith,
                reach k d less,
                ap (λ (m : Mark). m.offset) (get_or_append_left marks (next ∷ []) d k (omega (arith, less))),
                ap (λ (m : Mark). m.offset) (get_or_append_left marks (next ∷ []) d (k + 1) less),
              )
          | inr here ↦
              (let at : k + 1 ≡ length marks = omega (arith, here, lt, count) in
              let before_it : length marks - 1 ≡ k = omega (arith, at, some) in
              omega (
                arith,
                le,
                within,
                ap (λ (m : Mark). m.offset) (last (k + 1) d at),
                ap (λ (m : Mark). m.offset) (get_or_append_left marks (next ∷ []) d k (omega (arith, at))),
                ap (λ (m : Mark). m.offset) (is d),
                ap (λ n. (get_or marks n d).offset) before_it,
              ))
        ];
  }

-- OF ONE MARK ALONE
pub marks_first : (text : List ℕ) (mark : Mark) (before : LogContent) → IsMark text before mark → AreMarksTo text (mark ∷ []) before
marks_first text mark before is = record {
  each = λ k d lt. (let here : 0 ≡ k = omega (arith, lt) in (before, subst (λ n. IsMark text before (get_or (mark ∷ []) n d)) here is));
  last = λ d. is;
}

pub reach_first : (size : ℕ) (mark : Mark) → AreInReach size (mark ∷ [])
reach_first size mark k d lt = absurd (omega (arith, lt))

-- the marks of a log before any piece of it is read
pub first_marked : (text : List ℕ) (first : Mark) (marks : List Mark) → marks ≡ first ∷ [] → (begins : IsFirstMark text first) → AreMarksTo text marks begins.0
first_marked text first marks one begins = subst (λ ms. AreMarksTo text ms begins.0) (sym one) (marks_first text first begins.0 begins.2)

-- WHAT IS KEPT
pub keeps_none : (room : ℕ) (marks : List Mark) → KeepsMarks room marks marks
keeps_none room marks = record { first = λ d. refl; reach = λ size le reach. reach }

-- with more, in a room that is no larger
pub keeps_on : {room cut : ℕ} {old now new : List Mark} → cut ≤ room → KeepsMarks room old now → KeepsMarks cut now new → KeepsMarks room old new
keeps_on fits one more = record { first = λ d. more.first d ∙ one.first d; reach = λ size le reach. more.reach size (omega (arith, le, fits)) (one.reach size le reach) }

-- READ ON, and once more
module _ {P : Type 0} (passes : (old new : P) (whole before after : LogContent) → Type 0) (held now_held : Option (List ℕ)) (kept : (text : List ℕ) → held ≡ Some text → now_held ≡ Some text) where
  pub reads_more : ((old now new : P) (whole before between after : LogContent) → passes old now whole before between → passes now new whole between after → passes old new whole before after)
      → (old now new : Reading P) → ReadsOn passes held old now → ReadsOn passes now_held now new → ReadsOn passes held old new
  reads_more goes_on old now new one more text log is at =
      let first = one text log is at in
      let next = more text first.0 (kept text is) first.1 in (
        next.0,
        next.1,
        λ whole torn reads. goes_on old.pass now.pass new.pass whole log first.0 next.0 (first.2 whole torn reads) (next.2 whole torn reads),
      )

  -- and to the end
  pub reads_to_end : (old new : Reading P) (torn : ℕ) → ReadsOn passes held old new → EndsAtLast now_held new.marks torn → ReadsToEnd passes held old new torn
  reads_to_end old new torn on ends text log is at =
      let own = on text log is at in
      let reads = ends text own.0 (kept text is) own.1 in (own.0, own.1, reads, own.2 own.0 torn reads)

-- HOW FAR it is read
pub joins_more : (held now_held : Option (List ℕ)) (a b c : ℕ) (marks between after : List Mark) → Keeps held now_held → (ReachesLast held a marks → ReachesLast held b between) → (ReachesLast now_held b between → ReachesLast now_held c after)
    → ReachesLast held a marks → ReachesLast held c after
joins_more None now_held a b c marks between after kept one more far d = tt
joins_more (Some held) None a b c marks between after kept one more far d = absurd kept
joins_more (Some held) (Some same) a b c marks between after kept one more far d = more (one far) d

-- or to the end
pub read_after_more : (held now_held : Option (List ℕ)) (a b c : ℕ) (marks between : List Mark) → Keeps held now_held → (ReachesLast held a marks → ReachesLast held b between) → (ReachesLast now_held b between → IsReadThrough now_held c)
    → ReachesLast held a marks → IsReadThrough held c
read_after_more None now_held a b c marks between kept one more far = tt
read_after_more (Some held) None a b c marks between kept one more far = absurd kept
read_after_more (Some held) (Some same) a b c marks between kept one more far = omega (arith, more (one far), ap (λ (bytes : List ℕ). length bytes) kept)

-- ALL THAT IS KNOWN of a loop that reads on
pub record IsReadOn {D P : Type 0} (text : D → Option (List ℕ)) (failures read_to : D → ℕ) (pass : Pass P) (room : ℕ) (begun device : D) (old new : Reading P) : Type 0 where
  pub source : HasReadOn text failures read_to begun device
  pub ready : IsReadyAfter pass.is_ready new
  pub keeps : pass.keeps old.pass new.pass
  pub marks : KeepsMarks room old.marks new.marks
  pub passed : ReadsOn pass.passes (text begun) old new
  pub reach : ReachesLast (text begun) (read_to begun) old.marks → ReachesLast (text begun) (read_to device) new.marks

module _ {D P : Type 0} {text : D → Option (List ℕ)} {failures read_to : D → ℕ} (pass : Pass P) {room : ℕ} where
  -- before the first piece
  pub on_none : {source : D} {reading : Reading P} → IsReadyAfter pass.is_ready reading → IsReadOn text failures read_to pass room source source reading reading
  on_none {reading = reading} ready = record {
    source = read_none;
    ready = ready;
    keeps = pass.begins_same reading.pass;
    marks = keeps_none room reading.marks;
    passed = λ bytes log is at. (log, at, λ whole torn reads. pass.begins reading.pass whole log);
    reach = λ far. far;
  }

  -- with one more, in a room that is no larger
  pub on_more : {T : Type 0} {x : T} {source mid source_now : D} {old now new : Reading P} {cut : ℕ} → cut ≤ room → IsReadOn text failures read_to pass room source mid old now
      → HasRead text failures read_to mid source_now (Ok x) → IsReadyAfter pass.is_ready new → pass.keeps now.pass new.pass → KeepsMarks cut now.marks new.marks → ReadsOn pass.passes (text mid) now new
      → (ReachesLast (text mid) (read_to mid) now.marks → ReachesLast (text mid) (read_to source_now) new.marks) → IsReadOn text failures read_to pass room source source_now old new
  on_more {source = source} {mid = mid} {source_now = source_now} {old = old} {now = now} {new = new} fits on read ready keeps marks passed reach = record {
    source = reads_on on.source read;
    ready = ready;
    keeps = pass.stays_same old.pass now.pass new.pass on.keeps keeps;
    marks = keeps_on fits on.marks marks;
    passed = reads_more pass.passes (text source) (text mid) (λ bytes is. still on.source is) pass.goes_on old now new on.passed passed;
    reach = joins_more (text source) (text mid) (read_to source) (read_to mid) (read_to source_now) old.marks now.marks new.marks on.source.same on.reach reach;
  }

-- THE MARKS of a later list after its first, which is the last of these
module _ (marks later : List Mark) (some : 0 < length marks) (more : 0 < length later) (same : (d : Mark) → get_or later 0 d ≡ get_or marks (length marks - 1) d) where
  abbrev all : List Mark
  all = marks ++ drop 1 later

  sum : length all + 1 ≡ length marks + length later
  sum = omega (arith, length-append marks (drop 1 later), length-drop 1 later, more)

  front : (k : ℕ) (d : Mark) → k < length marks → get_or all k d ≡ get_or marks k d
  front k d lt = get_or_append_left marks (drop 1 later) d k lt

  -- the last of the first list, too, is one of the later
  back : (k n : ℕ) (d : Mark) → k + 1 ≡ length marks + n → get_or all k d ≡ get_or later n d
  back k zero d at = front k d (omega (arith, at)) ∙ ap (λ p. get_or marks p d) (omega (arith, at)) ∙ sym (same d)
  back k (suc n) d at =
      get_or-append_right marks (drop 1 later) k d (omega (arith, at)) ∙ ap (λ p. get_or (drop 1 later) p d) (omega (arith, at)) ∙ get_or_after_one later n d ∙ ap (λ p. get_or later p d) (omega arith)

  -- the last is that of the later list
  pub joined_last : (d : Mark) → get_or all (length all - 1) d ≡ get_or later (length later - 1) d
  joined_last d = back (length all - 1) (length later - 1) d (omega (arith, sum, some, more))

  pub marks_joined : (text : List ℕ) (before after : LogContent) → AreMarksTo text marks before → AreMarksTo text later after → AreMarksTo text (marks ++ drop 1 later) after
  marks_joined text before after one next = record {
    each = λ k d lt.
        elim (cases_lt k (length marks)) [
          | inl less ↦ (let own = one.each k d less in (own.0, subst (IsMark text own.0) (sym (front k d less)) own.1))
          | inr past ↦
              (let n = (k + 1) - length marks in
              let own = next.each n d (omega (arith, lt, sum, past)) in
              (own.0, subst (IsMark text own.0) (sym (back k n d (omega (arith, past)))) own.1))
        ];
    last = λ d. subst (IsMark text after) (sym (joined_last d)) (next.last d);
  }

  pub keeps_joined : (room : ℕ) → AreInReach room later → KeepsMarks room marks (marks ++ drop 1 later)
  keeps_joined room own = record {
    first = λ d. front 0 d some;
    reach = λ size le reach k d lt.
        elim (cases_lt (k + 1) (length marks)) [
          | inl less ↦ omega (arith, reach k d less, ap (λ (m : Mark). m.offset) (front k d (omega (arith, less))), ap (λ (m : Mark). m.offset) (front (k + 1) d less))
          | inr past ↦
              (let n = (k + 1) - length marks in
              omega (
                arith,
                le,
                own n d (omega (arith, lt, sum, past)),
                ap (λ (m : Mark). m.offset) (back k n d (omega (arith, past))),
                ap (λ (m : Mark). m.offset) (back (k + 1) (n + 1) d (omega (arith, past))),
              ))
        ];
  }
