-- What is gathered while a log is read: one want less, and what it leads to.
use Rattle.std.proofs.Common.{ℕ, zero, suc, ◌≡◌, ◌⊎◌, ◌<◌, ◌≤◌, cond, eqb, eqb-true, eq-eqb, ne_eqb, List, ◌∷◌, Option, Some, None, refl, subst, sym, ap, ◌∙◌, inl, inr, arith, IsPermutation}
use Rattle.std.specs.Prelude.{option_map}
use Rattle.std.proofs.lemmas.Bool.{cases_Bool, cases_eq}
use Rattle.std.proofs.lemmas.Option.{same_Some}
use Rattle.std.proofs.lemmas.List.Sorted.{Contains-permutation, All-permutation}
use Rattle.std.proofs.lemmas.List.Elements.{All-cons, All-contains}
use Rattle.log_laws.specs.Records.{TableEntry, LogRecord, Update, Compensation, History, base_lsn, last_lsn, record_at}
use Rattle.log_laws.proofs.Histories.{record_none}
use Rattle.undo.specs.declared.want.Want.{Want}
use Rattle.undo.specs.declared.walk.Hop.TheVariants as hop
use Rattle.undo.specs.Rollback.{hop_of}
use Rattle.undo.specs.Gathered.{link_in, IsPassedOver}
use Rattle.undo.specs.Enough.{AreGathered, IsFound, sends}
use Rattle.undo.specs.Wants.{WantUpTo}
use Rattle.undo.specs.Gathering.{ContinuesAt, MayWant, AreGatheredSoFar}

-- one of some wants is the first or another
wanted_cases : (want : Want) (wants : List Want) (t lsn : ℕ) → ContinuesAt (want ∷ wants) t lsn → ((want.tx ≡ t) × (want.lsn ≡ lsn)) ⊎ ContinuesAt wants t lsn
wanted_cases want wants t lsn (zero, lt, is) = inl (ap (λ (w : Want). w.tx) is, ap (λ (w : Want). w.lsn) is)
wanted_cases want wants t lsn (suc k, lt, is) = inr (k, omega (arith, lt), is)

-- all still continue at most at an LSN, if one more continues below it, and if one is taken
pub up_to_put : (n : ℕ) (want : Want) (old new : List Want) → IsPermutation (want ∷ old) new → want.lsn ≤ n → WantUpTo n old → WantUpTo n new
up_to_put n want old new moved le up =
    All-permutation (λ w. w.lsn ≤ n) (want ∷ old) new moved (All-cons (λ w. w.lsn ≤ n) want old le up)

pub up_to_first : (n : ℕ) (want : Want) (old new : List Want) → IsPermutation old (want ∷ new) → WantUpTo n old → want.lsn ≤ n
up_to_first n want old new moved up = All-permutation (λ w. w.lsn ≤ n) old (want ∷ new) moved up 0 want (omega arith)

pub up_to_rest : (n : ℕ) (want : Want) (old new : List Want) → IsPermutation old (want ∷ new) → WantUpTo n old → WantUpTo n new
up_to_rest n want old new moved up = λ k d lt. All-permutation (λ w. w.lsn ≤ n) old (want ∷ new) moved up (suc k) d (omega (arith, lt))

-- in another order
pub reordered : (whole some : History) (losers : List TableEntry) (old new : List Want) → IsPermutation old new → AreGatheredSoFar whole some losers old → AreGatheredSoFar whole some losers new
reordered whole some losers old new moved far = record {
  base = far.base;
  last = far.last;
  each = far.each;
  begin = λ t e own. same t e.undo_next (far.begin t e own);
  go_on = λ t lsn next e own sent lt. same t next (far.go_on t lsn next e own sent lt);
}
  where
    same : (t lsn : ℕ) → IsFound whole some t lsn ⊎ ContinuesAt old t lsn → IsFound whole some t lsn ⊎ ContinuesAt new t lsn
    same t lsn (inl found) = inl found
    same t lsn (inr wanted) = inr (Contains-permutation old new (record { lsn = lsn; tx = t }) moved wanted)

-- what is sent nowhere makes no hop
pub nowhere : (t : ℕ) (o : Option LogRecord) → sends t o ≡ None → hop_of t o ≡ None
nowhere t None h = refl
nowhere t (Some (Update u)) h =
    elim (cases_Bool (eqb u.tx t)) [
      | inl e ↦ absurd (let f : Some u.prev ≡ None = sym (ap (λ b. cond b (Some u.prev) None) e) ∙ h in cc)
      | inr e ↦ ap (λ b. cond b (Some hop.Update) None) e
    ]
nowhere t (Some r) h = ap (option_map hop.On) h

-- a record that sends a walk to an LSN is looked at, and is only of its own transaction
is_link : (t next : ℕ) (r : LogRecord) → sends t (Some r) ≡ Some next → link_in r ≡ r
is_link t next (Update u) h = refl
is_link t next (Compensation c) h = refl
is_link t next _ h = absurd cc

one_owner : (t other next lsn : ℕ) (r : LogRecord) → sends t (Some r) ≡ Some next → sends other (Some r) ≡ Some lsn → (t ≡ other) × (next ≡ lsn)
one_owner t other next lsn (Update u) a b =
    elim (cases_Bool (eqb u.tx t)) [
      | inl e ↦
          elim (cases_Bool (eqb u.tx other)) [
            | inl f ↦
                (sym (eqb-true u.tx t e) ∙ eqb-true u.tx other f, same_Some next lsn (sym a ∙ ap (λ b. cond b (Some u.prev) None) e ∙ sym (ap (λ b. cond b (Some u.prev) None) f) ∙ b))
            | inr f ↦ absurd (let g : None ≡ Some lsn = sym (ap (λ b. cond b (Some u.prev) None) f) ∙ b in cc)
          ]
      | inr e ↦ absurd (let g : None ≡ Some next = sym (ap (λ b. cond b (Some u.prev) None) e) ∙ a in cc)
    ]
one_owner t other next lsn (Compensation c) a b =
    elim (cases_Bool (eqb c.tx t)) [
      | inl e ↦
          elim (cases_Bool (eqb c.tx other)) [
            | inl f ↦
                (sym (eqb-true c.tx t e) ∙ eqb-true c.tx other f, same_Some next lsn (sym a ∙ ap (λ b. cond b (Some c.undo_next) None) e ∙ sym (ap (λ b. cond b (Some c.undo_next) None) f) ∙ b))
            | inr f ↦ absurd (let g : None ≡ Some lsn = sym (ap (λ b. cond b (Some c.undo_next) None) f) ∙ b in cc)
          ]
      | inr e ↦ absurd (let g : None ≡ Some next = sym (ap (λ b. cond b (Some c.undo_next) None) e) ∙ a in cc)
    ]
one_owner t other next lsn _ a b = absurd cc

module _ (whole some : History) (losers : List TableEntry) (want : Want) (wants : List Want) (far : AreGatheredSoFar whole some losers (want ∷ wants)) where
  -- no record of the transaction is where it continues
  pub dropped : hop_of want.tx (record_at whole want.lsn) ≡ None → AreGatheredSoFar whole some losers wants
  dropped none = record {
    base = far.base;
    last = far.last;
    each = far.each;
    begin = λ t e own. still t e.undo_next (far.begin t e own);
    go_on = λ t lsn next e own sent lt. still t next (far.go_on t lsn next e own sent lt);
  }
    where
      still : (t lsn : ℕ) → IsFound whole some t lsn ⊎ ContinuesAt (want ∷ wants) t lsn → IsFound whole some t lsn ⊎ ContinuesAt wants t lsn
      still t lsn (inl found) = inl found
      still t lsn (inr wanted) =
          elim (wanted_cases want wants t lsn wanted) [
            | inl is ↦ inl (inr (subst (λ n. hop_of t (record_at whole n) ≡ None) is.1 (subst (λ x. hop_of x (record_at whole want.lsn) ≡ None) is.0 none)))
            | inr other ↦ inr other
          ]

  -- its record is kept, and the transaction continues from there
  module _ (new : History) (more : List Want) (r : LogRecord) (next : ℕ) (there : record_at whole want.lsn ≡ Some r) (sent : sends want.tx (Some r) ≡ Some next) (same_base : base_lsn new ≡ base_lsn some) (same_last : last_lsn new ≡ last_lsn some)
      (kept : (n : ℕ) → record_at new n ≡ cond (eqb want.lsn n) (Some (link_in r)) (record_at some n)) (goes_on : MayWant want.tx want.lsn next wants more) where
    here : record_at new want.lsn ≡ record_at whole want.lsn
    here = kept want.lsn ∙ ap (λ b. cond b (Some (link_in r)) (record_at some want.lsn)) (eq-eqb want.lsn want.lsn refl) ∙ ap (λ x. Some x) (is_link want.tx next r sent) ∙ sym there

    elsewhere : (n : ℕ) → (want.lsn ≡ n → ⊥) → record_at new n ≡ record_at some n
    elsewhere n other = kept n ∙ ap (λ b. cond b (Some (link_in r)) (record_at some n)) (ne_eqb want.lsn n other)

    -- what was found still is
    still_found : (t lsn : ℕ) → IsFound whole some t lsn → IsFound whole new t lsn
    still_found t lsn (inr none) = inr none
    still_found t lsn (inl same) =
        elim (cases_eq want.lsn lsn) [
          | inl e ↦ inl (subst (λ n. record_at new n ≡ record_at whole n) e here)
          | inr d ↦ inl (elsewhere lsn d ∙ same)
        ]

    still_wanted : (t lsn : ℕ) → ContinuesAt wants t lsn → ContinuesAt more t lsn
    still_wanted t lsn h =
        elim goes_on [
          | inl none ↦ subst (λ (ws : List Want). ContinuesAt ws t lsn) (sym none.0) h
          | inr moved ↦ Contains-permutation (record { lsn = next; tx = want.tx } ∷ wants) more (record { lsn = lsn; tx = t }) moved (suc h.0, omega (arith, h.1), h.2)
        ]

    goes : (t lsn : ℕ) → IsFound whole some t lsn ⊎ ContinuesAt (want ∷ wants) t lsn → IsFound whole new t lsn ⊎ ContinuesAt more t lsn
    goes t lsn (inl found) = inl (still_found t lsn found)
    goes t lsn (inr wanted) =
        elim (wanted_cases want wants t lsn wanted) [
          | inl is ↦ inl (inl (subst (λ n. record_at new n ≡ record_at whole n) is.1 here))
          | inr other ↦ inr (still_wanted t lsn other)
        ]

    -- the transaction continues where its record sends it
    next_wanted : next < want.lsn → IsFound whole new want.tx next ⊎ ContinuesAt more want.tx next
    next_wanted below =
        elim goes_on [
          | inl kept_out ↦
              elim kept_out.1 [
                | inl past ↦ absurd (past below)
                | inr none ↦ inl (inr (ap (hop_of want.tx) (record_none whole next (inl (omega (arith, none))))))
              ]
          | inr moved ↦ inr (Contains-permutation (record { lsn = next; tx = want.tx } ∷ wants) more (record { lsn = next; tx = want.tx }) moved (0, omega arith, refl))
        ]

    pub kept_on : AreGatheredSoFar whole new losers more
    kept_on = record {
      base = same_base ∙ far.base;
      last = same_last ∙ far.last;
      each = λ lsn.
          elim (cases_eq want.lsn lsn) [
            | inl e ↦ inl (subst (λ n. record_at new n ≡ record_at whole n) e here)
            | inr d ↦
                elim (far.each lsn) [
                  | inl same ↦ inl (elsewhere lsn d ∙ same)
                  | inr passed ↦ inr (subst IsPassedOver (sym (elsewhere lsn d)) passed)
                ]
          ];
      begin = λ t e own. goes t e.undo_next (far.begin t e own);
      go_on = λ t lsn n e own sent_to lt.
          elim (cases_eq want.lsn lsn) [
            | inl is ↦
                (let both = one_owner want.tx t next n r sent (ap (sends t) (sym (subst (λ m. record_at new m ≡ record_at whole m) is here ∙ ap (record_at whole) (sym is) ∙ there)) ∙ sent_to) in
                subst (λ m. IsFound whole new t m ⊎ ContinuesAt more t m) both.1 (subst (λ x. IsFound whole new x next ⊎ ContinuesAt more x next) both.0 (next_wanted (omega (arith, lt, is, both.1)))))
            | inr d ↦ goes t n (far.go_on t lsn n e own (ap (sends t) (sym (elsewhere lsn d)) ∙ sent_to) lt)
          ];
    }

-- if the walks continue before the log, enough is gathered
pub all_gathered : (whole some : History) (losers : List TableEntry) (wants : List Want) → WantUpTo (base_lsn whole) wants → AreGatheredSoFar whole some losers wants → AreGathered whole some losers
all_gathered whole some losers wants up far = record {
  base = far.base;
  last = far.last;
  each = far.each;
  begin = λ t e own. found t e.undo_next (far.begin t e own);
  go_on = λ t lsn next e own sent lt. found t next (far.go_on t lsn next e own sent lt);
}
  where
    found : (t lsn : ℕ) → IsFound whole some t lsn ⊎ ContinuesAt wants t lsn → IsFound whole some t lsn
    found t lsn (inl h) = h
    found t lsn (inr wanted) = inr (ap (hop_of t) (record_none whole lsn (inl (All-contains (λ w. w.lsn ≤ base_lsn whole) wants (record { lsn = lsn; tx = t }) up wanted))))
