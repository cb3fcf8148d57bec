use Rattle.std.proofs.Common.{◌≡◌, ◌+◌, ◌-◌, ◌<◌, ℕ, suc, List, ◌∷◌, Option, Some, cond, length, drop, get_or, sym, ap, ◌∙◌, arith, eqb, drop-cons}
use Rattle.log_laws.specs.Redo.{rec_lsn_of}
use Rattle.audit.proofs.Passing.{written_back}
use Rattle.audit.proofs.dirty.rec_lsns_in.Goals as goal

here : (xs : List (ℕ × ℕ)) (i : ℕ) (d : ℕ × ℕ) → i < length xs → get_or xs i d ≡ d → drop i xs ≡ d ∷ drop (i + 1) xs
here xs i d lt e = let n : suc i ≡ i + 1 = omega arith in drop-cons xs i d lt ∙ ap (λ (x : ℕ × ℕ). x ∷ drop (suc i) xs) e ∙ ap (λ k. d ∷ drop k xs) n

pub loop-behind-preserved : goal.loop-behind-preserved
loop-behind-preserved c =
    let entries : List (ℕ × ℕ) = c.args.dirty.now in
    let e : ℕ × ℕ = c.entry-page.result in
    let n : ℕ = c.len-last.result - 1 - c.loop-behind.behind in
    let old : List (Option ℕ) = c.loop-behind.listed.items in
    let new : List (Option ℕ) = c.put_rec_lsn.new.listed in
    let from : c.len-last.result - c.loop-behind.behind ≡ n + 1 = omega arith in
    let to : n ≡ c.len-last.result - (c.loop-behind.behind + 1) = omega arith in
    let cut : drop n entries ≡ e ∷ drop (n + 1) entries = here entries n e (omega arith) (c.entry-page.ensures e) in
    let size : length old ≡ c.loop-behind.listed.len = omega (arith, c.deref_mut.ensures.len, ap (λ (xs : List (Option ℕ)). length xs) c.deref_mut.ensures.value) in
    let size' : length new ≡ c.loop-behind.listed.len = omega (arith, c.put_rec_lsn.ensures.count, c.deref_mut.ensures.len) in
    let back = written_back c.loop-behind.listed.len old new size size' in
    record {
      count = ap (λ (xs : List (Option ℕ)). length xs) back ∙ size' ∙ sym size ∙ c.loop-behind.invariant.count;
      each = λ number d lt.
          ap (λ (xs : List (Option ℕ)). get_or xs number d) back
          ∙ c.put_rec_lsn.ensures.put number d (omega (arith, lt, c.loop-behind.invariant.count, ap (λ (xs : List (Option ℕ)). length xs) c.deref_mut.ensures.value))
          ∙ ap (λ (xs : List (Option ℕ)). cond (eqb e.0 number) (Some e.1) (get_or xs number d)) c.deref_mut.ensures.value
          ∙ ap (λ (o : Option ℕ). cond (eqb e.0 number) (Some e.1) o) (c.loop-behind.invariant.each number d lt ∙ ap (λ k. rec_lsn_of number (drop k entries)) from)
          ∙ sym (ap (rec_lsn_of number) cut)
          ∙ ap (λ k. rec_lsn_of number (drop k entries)) to;
    }
