-- If enough of a log is gathered, undo makes of what is gathered what it makes of the log.
use Rattle.std.proofs.Common.{ℕ, zero, suc, ◌≡◌, ◌+◌, ◌<◌, ◌≤◌, Bool, true, false, cond, eqb, ltb, ◌⊎◌, eq-eqb, List, [], ◌∷◌, ◌++◌, length, get_or, map, Option, Some, None, refl, subst, sym, ap, ap₂, ◌∙◌, inl, inr, arith}
use mathlib.Core.Path.{fun_ext}
use Rattle.std.specs.Prelude.{⊤, All, ◌&&◌, filter, flat_map, option_map}
use Rattle.std.specs.List.{range_with_len}
use Rattle.page.specs.Image.{Image}
use Rattle.log_laws.specs.Meaning.{effects, writes, is_on, image_of}
use Rattle.log_laws.specs.Redo.{held_by, last_where}
use Rattle.undo.specs.Undone.{slots_of, undone_page}
use Rattle.undo.proofs.UndonePages.{no_effects, no_last}
use Rattle.undo.specs.Appended.{record_of}
use Rattle.undo.specs.declared.appended.Appended.{Appended}
use Rattle.std.proofs.lemmas.Bool.{cases_Bool, cases_lt, false≢true}
use Rattle.std.proofs.lemmas.Option.{same_Some}
use Rattle.page.specs.declared.page.Page.{Page}
use Rattle.page.specs.declared.fault.Fault.{Fault}
use Rattle.page.specs.declared.fault.Fault.TheVariants.{NoResource, NoSuchPage, BrokenChain}
use Rattle.log_laws.specs.Records.{TableEntry, tx_in, UpdateRecord, LogRecord, LogContent, Update, Compensation, History, start, ◌▸◌, ◌▸▸◌, history, last_lsn, base_lsn, record_at, first}
use Rattle.log_laws.specs.Hops.{Walk, hops, sent_on, meet}
use Rattle.log_laws.specs.Tail.{is_among, updates_where, is_stacked, rollback, records_for, undo_of, Finish, is_empty}
use Rattle.log_laws.specs.Undo.{entry_for, walk_of, undone_by, last_in}
use Rattle.log_laws.proofs.Histories.{record_last, record_older, base_within, first_all}
use Rattle.wal.proofs.Entries.{entry_own}
use Rattle.undo.specs.declared.walk.Hop.{Hop}
use Rattle.undo.specs.declared.walk.Hop.TheVariants as hop
use Rattle.undo.specs.Rollback.{hop_of, walk_from, IsUpdateAt}
use Rattle.undo.specs.Gathered.{IsPassedOver}
use Rattle.undo.specs.Enough.{AreGathered, IsFound, sends, Suffices, GatheredSuffices}
use Rattle.undo.specs.Appended.{clr_of, appended_records, IsUpdate, HaveUpdates, RolledBackInBrief}
use Rattle.undo.specs.declared.appended.Appended.TheVariants as brief
use Rattle.undo.specs.Undone.{IsMet, MetExist, EndsBadly, last_met, lowest, UndoFault}
use Rattle.tables.specs.Tables.{TablesContent, losers_in}
use Rattle.wal.specs.Spelling.{Fits}
use Rattle.log_laws.specs.Store.{NamesPages}
use Rattle.undo.proofs.UndonePages.{map-same-at}
use Rattle.undo.proofs.Walks.{walk_zero, walk_past, walk_stops, walk_goes_on, walk_meets, update_there}
use Rattle.undo.proofs.Meeting.{walk_found}

-- what is passed over sends no walk to an LSN
passed_over : (t : ℕ) (o : Option LogRecord) → IsPassedOver o → hop_of t o ≡ None
passed_over t None h = refl
passed_over t (Some (Update u)) h = absurd h
passed_over t (Some (Compensation c)) h = absurd h
passed_over t (Some _) h = refl

-- a hop is the LSN to which a record sends the walk
hop_sends : (t next : ℕ) (o : Option LogRecord) → hop_of t o ≡ Some (hop.On next) → sends t o ≡ Some next
hop_sends t next None h = absurd cc
hop_sends t next (Some (Update u)) h =
    elim (cases_Bool (eqb u.tx t)) [
      | inl e ↦ absurd (let f : Some hop.Update ≡ Some (hop.On next) = sym (ap (λ b. cond b (Some hop.Update) None) e) ∙ h in cc)
      | inr e ↦ absurd (let f : None ≡ Some (hop.On next) = sym (ap (λ b. cond b (Some hop.Update) None) e) ∙ h in cc)
    ]
hop_sends t next (Some r) h = by_sent (sent_on t r) h
  where
    by_sent : (o : Option ℕ) → option_map hop.On o ≡ Some (hop.On next) → o ≡ Some next
    by_sent None h = absurd cc
    by_sent (Some n) h = (let i : n ≡ next = cc in ap (λ k. Some k) i)

-- the update that is compensated is in a log
abbrev HasUpdate_at : History → Appended → Type 0
HasUpdate_at log (brief.Compensation update prev) = IsUpdate (record_at log update)
HasUpdate_at log (brief.End tx prev) = ⊤

-- THE CHOSEN UPDATES of two logs
-- what a record adds to them
abbrev added : (ℕ → UpdateRecord → Bool) → ℕ → LogRecord → List (ℕ × UpdateRecord) → List (ℕ × UpdateRecord)
added chosen lsn (Update u) rest = cond (chosen lsn u) ((lsn, u) ∷ rest) rest
added chosen lsn _ rest = rest

one_added : (chosen : ℕ → UpdateRecord → Bool) (log : History) (r : LogRecord) → updates_where chosen (log ▸ r) ≡ added chosen (suc (last_lsn log)) r (updates_where chosen log)
one_added chosen log (Update u) = refl
one_added chosen log _ = refl

none_added : (chosen : ℕ → UpdateRecord → Bool) (lsn : ℕ) (r : LogRecord) (rest : List (ℕ × UpdateRecord)) → ((u : UpdateRecord) → r ≡ Update u → chosen lsn u ≡ false) → added chosen lsn r rest ≡ rest
none_added chosen lsn (Update u) rest h = ap (λ b. cond b ((lsn, u) ∷ rest) rest) (h u refl)
none_added chosen lsn _ rest h = refl

passed_added : (chosen : ℕ → UpdateRecord → Bool) (lsn : ℕ) (r : LogRecord) (rest : List (ℕ × UpdateRecord)) → IsPassedOver (Some r) → added chosen lsn r rest ≡ rest
passed_added chosen lsn (Update u) rest h = absurd h
passed_added chosen lsn _ rest h = refl

-- at each LSN they have the same record, or the first has one to pass over, and the second no update that is chosen
abbrev Agree : (ℕ → UpdateRecord → Bool) → History → History → ℕ → Type 0
Agree chosen a b lsn = (record_at a lsn ≡ record_at b lsn) ⊎ (IsPassedOver (record_at a lsn) × ((u : UpdateRecord) → record_at b lsn ≡ Some (Update u) → chosen lsn u ≡ false))

same_updates : (chosen : ℕ → UpdateRecord → Bool) (a b : History) → base_lsn a ≡ base_lsn b → last_lsn a ≡ last_lsn b → ((lsn : ℕ) → lsn ≤ last_lsn a → Agree chosen a b lsn) → updates_where chosen a ≡ updates_where chosen b
same_updates chosen (start x) (start y) base last agree = refl
same_updates chosen (start x) (b ▸ r) base last agree = absurd (omega (arith, base, last, base_within b))
same_updates chosen (a ▸ q) (start y) base last agree = absurd (omega (arith, base, last, base_within a))
same_updates chosen (a ▸ q) (b ▸ r) base last agree =
    let before : last_lsn a ≡ last_lsn b = omega (arith, last) in
    let older : updates_where chosen a ≡ updates_where chosen b =
    same_updates chosen a b base before
    (λ lsn le.
    let here : record_at (a ▸ q) lsn ≡ record_at a lsn = record_older a q lsn le in
    let there : record_at (b ▸ r) lsn ≡ record_at b lsn = record_older b r lsn (omega (arith, le, before)) in
    elim (agree lsn (omega (arith, le))) [
      | inl same ↦ inl (sym here ∙ same ∙ there)
      | inr other ↦ inr (subst IsPassedOver here other.0, λ u found. other.1 u (there ∙ found))
    ]) in
    let here : record_at (a ▸ q) (suc (last_lsn a)) ≡ Some q = record_last a q in
    let there : record_at (b ▸ r) (suc (last_lsn a)) ≡ Some r = ap (λ n. record_at (b ▸ r) (suc n)) before ∙ record_last b r in
    one_added chosen a q
    ∙ elim (agree (suc (last_lsn a)) (omega arith)) [
      | inl same ↦ ap₂ (λ (x : LogRecord) xs. added chosen (suc (last_lsn a)) x xs) (same_Some q r (sym here ∙ same ∙ there)) older
      | inr other ↦
          passed_added chosen (suc (last_lsn a)) q (updates_where chosen a) (subst IsPassedOver here other.0) ∙ older
          ∙ sym (none_added chosen (suc (last_lsn a)) r (updates_where chosen b) (λ u is. other.1 u (there ∙ ap (λ x. Some x) is)))
    ]
    ∙ ap (λ n. added chosen (suc n) r (updates_where chosen b)) before
    ∙ sym (one_added chosen b r)

-- THE EFFECTS of what is appended, on a page, whatever comes before it
module _ (b : ℕ) (image : Page) where
  abbrev behind : ℕ → LogRecord → Bool
  behind lsn r = ltb b lsn

  same_effects : (x y : History) (rs : List LogRecord) → last_lsn x ≡ last_lsn y → ((page slot : ℕ) → effects behind (held_by image) x page slot ≡ effects behind (held_by image) y page slot)
      → (page slot : ℕ) → effects behind (held_by image) (x ▸▸ rs) page slot ≡ effects behind (held_by image) (y ▸▸ rs) page slot
  same_effects x y [] last same page slot = same page slot
  same_effects x y (r ∷ rs) last same page slot =
      same_effects (x ▸ r) (y ▸ r) rs (ap suc last)
      (λ p s. ap₂ (λ n e. cond (writes p s r && ltb b (suc n)) (image_of r) e) last (same p s)) page slot

  same_lasts : (x y : History) (rs : List LogRecord) → last_lsn x ≡ last_lsn y → last_where (λ lsn. ltb b lsn) image.number image.lsn x ≡ last_where (λ lsn. ltb b lsn) image.number image.lsn y
      → last_where (λ lsn. ltb b lsn) image.number image.lsn (x ▸▸ rs) ≡ last_where (λ lsn. ltb b lsn) image.number image.lsn (y ▸▸ rs)
  same_lasts x y [] last same = same
  same_lasts x y (r ∷ rs) last same =
      same_lasts (x ▸ r) (y ▸ r) rs (ap suc last) (ap₂ (λ n e. cond (is_on image.number r && ltb b (suc n)) (suc n) e) last same)

same_page : (x y : History) (rs : List LogRecord) (image : Page) → last_lsn x ≡ last_lsn y → undone_page x rs image ≡ undone_page y rs image
same_page x y rs image last =
    let b = last_lsn x in
    let le : last_lsn y ≤ b = omega (arith, last) in
    let lasts = same_lasts b image x y rs last (no_last b image.number image.lsn x (omega arith) ∙ sym (no_last b image.number image.lsn y le)) in
    let slots = same_effects b image x y rs last (λ page slot. no_effects b (held_by image) x page slot (omega arith) ∙ sym (no_effects b (held_by image) y page slot le)) in
    ap₂ (λ l (f : ℕ → Image). record { number = image.number; lsn = l; slots = map f (range_with_len 0 (length image.slots)) }) lasts (fun_ext (λ slot. slots image.number slot))
    ∙ ap (λ n. record { number = image.number; lsn = last_where (λ lsn. ltb n lsn) image.number image.lsn (y ▸▸ rs); slots = slots_of (effects (λ lsn _. ltb n lsn) (held_by image) (y ▸▸ rs)) image }) last

module _ (whole some : History) (losers : List TableEntry) (are : AreGathered whole some losers) where
  -- THE WALKS
  -- if nothing is to be found in the whole log, nothing is in what is gathered
  none_found : (t lsn : ℕ) → hop_of t (record_at whole lsn) ≡ None → hop_of t (record_at some lsn) ≡ None
  none_found t lsn none =
      elim (are.each lsn) [
        | inl same ↦ ap (hop_of t) same ∙ none
        | inr passed ↦ passed_over t (record_at some lsn) passed
      ]

  module _ (t : ℕ) (e : TableEntry) (own : entry_for t losers ≡ Some e) where
    same_walk : (fuel from lsn : ℕ) → from ≤ fuel → 0 < from → from ≤ last_lsn whole + 1 → (lsn < from → IsFound whole some t lsn) → walk_from some t from lsn ≡ walk_from whole t from lsn
    same_walk zero from lsn less positive within found = absurd (omega (arith, less, positive))
    same_walk (suc fuel) from zero less positive within found = walk_zero some t from ∙ sym (walk_zero whole t from)
    same_walk (suc fuel) from (suc n) less positive within found =
        elim (cases_lt (suc n) from) [
          | inr past ↦ walk_past some t from (suc n) positive past ∙ sym (walk_past whole t from (suc n) positive past)
          | inl below ↦
              elim (found below) [
                | inr none ↦ stops below (none_found t (suc n) none) none
                | inl same ↦ by_hop below (λ next. same_walk fuel (suc n) next (omega (arith, below, less)) (omega arith) (omega (arith, below, within))) same (hop_of t (record_at whole (suc n))) refl
              ]
        ]
      where
        some_within : from ≤ last_lsn some + 1
        some_within = omega (arith, within, are.last)

        stops : suc n < from → hop_of t (record_at some (suc n)) ≡ None → hop_of t (record_at whole (suc n)) ≡ None → walk_from some t from (suc n) ≡ walk_from whole t from (suc n)
        stops below a b =
            walk_stops some t from (suc n) (λ z. omega (arith, z)) below some_within a ∙ sym (walk_stops whole t from (suc n) (λ z. omega (arith, z)) below within b)

        by_hop : suc n < from → ((next : ℕ) → (next < suc n → IsFound whole some t next) → walk_from some t (suc n) next ≡ walk_from whole t (suc n) next) → record_at some (suc n) ≡ record_at whole (suc n) → (h : Option Hop) → hop_of t (record_at whole (suc n)) ≡ h → walk_from some t from (suc n) ≡ walk_from whole t from (suc n)
        by_hop below again same None is = stops below (ap (hop_of t) same ∙ is) is
        by_hop below again same (Some (hop.On next)) is =
            let here : hop_of t (record_at some (suc n)) ≡ Some (hop.On next) = ap (hop_of t) same ∙ is in
            walk_goes_on some t from (suc n) (λ z. omega (arith, z)) below some_within next here
            ∙ again next (λ lt. are.go_on t (suc n) next e own (hop_sends t next (record_at some (suc n)) here) lt)
            ∙ sym (walk_goes_on whole t from (suc n) (λ z. omega (arith, z)) below within next is)
        by_hop below again same (Some hop.Update) is =
            let there = update_there whole t from (suc n) (λ z. omega (arith, z)) below within is in
            let u = there.update in
            let here : IsUpdateAt some t (suc n) = record { update = u; found = same ∙ there.found; own = there.own } in
            let sent : sends t (record_at some (suc n)) ≡ Some u.prev = ap (sends t) here.found ∙ ap (λ b. cond b (Some u.prev) None) (eq-eqb u.tx t there.own) in
            walk_meets some t from (suc n) (λ z. omega (arith, z)) below some_within here
            ∙ ap (meet (suc n)) (again u.prev (λ lt. are.go_on t (suc n) u.prev e own sent lt))
            ∙ sym (walk_meets whole t from (suc n) (λ z. omega (arith, z)) below within there)

  -- a walk from the end of the log
  from_end : (log : History) (t lsn : ℕ) → hops t log lsn ≡ walk_from log t (last_lsn log + 1) lsn
  from_end log t lsn = sym (ap (λ n. hops t (first n log) lsn) (omega arith) ∙ ap (λ h. hops t h lsn) (first_all (last_lsn log) log (omega arith)))

  pub same_walks : (t : ℕ) → walk_of some (entry_for t losers) ≡ walk_of whole (entry_for t losers)
  same_walks t = by_entry (entry_for t losers) refl
    where
      by_entry : (o : Option TableEntry) → entry_for t losers ≡ o → walk_of some o ≡ walk_of whole o
      by_entry None is = refl
      by_entry (Some e) is =
          (let own = (entry_own t e losers is).0 in
          let is_own : entry_for e.tx losers ≡ Some e = ap (λ k. entry_for k losers) own ∙ is in
          from_end some e.tx e.undo_next
          ∙ ap (λ n. walk_from some e.tx n e.undo_next) (ap (λ n. n + 1) are.last)
          ∙ same_walk e.tx e is_own (last_lsn whole + 1) (last_lsn whole + 1) e.undo_next (omega arith) (omega arith) (omega arith) (λ lt. are.begin e.tx e is_own)
          ∙ sym (from_end whole e.tx e.undo_next))

  -- THE UPDATES
  -- an update that is gathered is in the whole log
  gathered_update : (lsn : ℕ) (u : UpdateRecord) → record_at some lsn ≡ Some (Update u) → record_at whole lsn ≡ Some (Update u)
  gathered_update lsn u there =
      elim (are.each lsn) [
        | inl same ↦ sym same ∙ there
        | inr passed ↦ absurd (subst IsPassedOver there passed)
      ]

  -- one that is met is gathered
  met_gathered : (t lsn : ℕ) → is_among lsn (walk_of whole (entry_for t losers)).met ≡ true → record_at some lsn ≡ record_at whole lsn
  met_gathered t lsn met = by_entry (entry_for t losers) refl
    where
      by_entry : (o : Option TableEntry) → entry_for t losers ≡ o → record_at some lsn ≡ record_at whole lsn
      by_entry None is = absurd (false≢true (ap (λ o. is_among lsn (walk_of whole o).met) (sym is) ∙ met))
      by_entry (Some e) is =
          (let met_here : is_among lsn (walk_from some e.tx (last_lsn some + 1) e.undo_next).met ≡ true =
          ap (λ (w : Walk). is_among lsn w.met) (sym (from_end some e.tx e.undo_next) ∙ ap (walk_of some) (sym is) ∙ same_walks t) ∙ met in
          let found = walk_found some e.tx (last_lsn some + 1) e.undo_next lsn met_here in
          found.1 ∙ sym (gathered_update lsn found.0 found.1))

  -- WHAT IS APPENDED
  abbrev met_in : History → ℕ → List ℕ
  met_in log t = (walk_of log (entry_for t losers)).met

  same_met : met_in some ≡ met_in whole
  same_met = fun_ext (λ t. ap (λ (w : Walk). w.met) (same_walks t))

  agree : (lsn : ℕ) → Agree (is_stacked (met_in whole)) some whole lsn
  agree lsn =
      elim (are.each lsn) [
        | inl same ↦ inl same
        | inr passed ↦
            inr (
              passed,
              λ u found.
                  elim (cases_Bool (is_among lsn (met_in whole u.tx))) [
                    | inl met ↦ absurd (subst IsPassedOver (met_gathered u.tx lsn met ∙ found) passed)
                    | inr none ↦ none
                  ],
            )
      ]

  pub same_undone : undone_by some losers ≡ undone_by whole losers
  same_undone =
      ap₂ (λ n (stack : ℕ → List ℕ). records_for (λ t. last_in (entry_for t losers)) (suc n) (rollback (map tx_in losers) stack some)) are.last same_met
      ∙ ap (λ (us : List (ℕ × UpdateRecord)). records_for (λ t. last_in (entry_for t losers)) (suc (last_lsn whole)) (map Finish (filter (λ t. is_empty (met_in whole t)) (map tx_in losers)) ++ flat_map (undo_of (met_in whole)) us))
      (same_updates (is_stacked (met_in whole)) some whole are.base are.last (λ lsn le. agree lsn))

  -- THE ERRORS
  met_there : (lsn : ℕ) (u : UpdateRecord) → IsMet some losers lsn u → IsMet whole losers lsn u
  met_there lsn u m = record {
    loser = m.loser;
    met = ap (λ (w : Walk). is_among lsn w.met) (sym (same_walks m.loser)) ∙ m.met;
    found = gathered_update lsn u m.found;
  }

  met_here : (lsn : ℕ) (u : UpdateRecord) → IsMet whole losers lsn u → IsMet some losers lsn u
  met_here lsn u m = record {
    loser = m.loser;
    met = ap (λ (w : Walk). is_among lsn w.met) (same_walks m.loser) ∙ m.met;
    found = met_gathered m.loser lsn m.met ∙ m.found;
  }

  exist_there : (count from : ℕ) → MetExist some losers count from → MetExist whole losers count from
  exist_there count from exist = λ lsn u le met. exist lsn u le (met_here lsn u met)

  bad_here : (t : ℕ) → EndsBadly whole losers t → EndsBadly some losers t
  bad_here t bad = λ well. bad (sym (ap (λ (w : Walk). w.ends) (same_walks t)) ∙ well)

  same_last_met : (t : ℕ) → last_met some losers t ≡ last_met whole losers t
  same_last_met t = ap₂ (λ n (w : Walk). lowest (suc n) w.met) are.last (same_walks t)

  pub fault_there : (count : ℕ) (e : Fault) → UndoFault some losers count e → UndoFault whole losers count e
  fault_there count NoResource h = tt
  fault_there count (NoSuchPage lsn) h = record {
    update = h.update;
    is_met = met_there lsn h.update h.is_met;
    missing = h.missing;
    behind = exist_there count (suc lsn) h.behind;
    none_broken = λ t bad. omega (arith, h.none_broken t (bad_here t bad), same_last_met t);
  }
  fault_there count (BrokenChain lsn) h = record {
    loser = h.loser;
    ends = ap (λ (w : Walk). w.ends) (sym (same_walks h.loser)) ∙ h.ends;
    bad = h.bad;
    behind = subst (MetExist whole losers count) (same_last_met h.loser) (exist_there count (last_met some losers h.loser) h.behind);
    first = λ t bad.
        elim (h.first t (bad_here t bad)) [
          | inl lt ↦ inl (omega (arith, lt, same_last_met t, same_last_met h.loser))
          | inr eq ↦ inr (omega (arith, eq.0, same_last_met t, same_last_met h.loser), eq.1)
        ];
  }
  fault_there count e h = absurd h

  -- THE RECORDS MEANT
  update_there_too : (a : Appended) → HasUpdate_at some a → HasUpdate_at whole a
  update_there_too (brief.Compensation update prev) h = by_record (record_at some update) refl h
    where
      by_record : (o : Option LogRecord) → record_at some update ≡ o → IsUpdate o → IsUpdate (record_at whole update)
      by_record (Some (Update u)) is h = subst IsUpdate (sym (gathered_update update u is)) tt
      by_record None is h = absurd h
      by_record (Some _) is h = absurd h
  update_there_too (brief.End tx prev) h = tt

  one_told : (a : Appended) → HasUpdate_at some a → record_of some a ≡ record_of whole a
  one_told (brief.Compensation update prev) h = by_record (record_at some update) refl h
    where
      by_record : (o : Option LogRecord) → record_at some update ≡ o → IsUpdate o → clr_of prev (record_at some update) ≡ clr_of prev (record_at whole update)
      by_record (Some (Update u)) is h = ap (clr_of prev) (is ∙ sym (gathered_update update u is))
      by_record None is h = absurd h
      by_record (Some _) is h = absurd h
  one_told (brief.End tx prev) h = refl

-- ENOUGH
module _ (whole some : LogContent) (tables : TablesContent) (are : AreGathered (history whole) (history some) (losers_in tables)) where
  told : (appended : List Appended) → HaveUpdates some appended → appended_records (history some) appended ≡ appended_records (history whole) appended
  told appended have =
      map-same-at (record_of (history some)) (record_of (history whole)) appended (brief.End 0 0)
      (λ k lt. sym (one_told (history whole) (history some) (losers_in tables) are (get_or appended k (brief.End 0 0)) (have k (brief.End 0 0) lt)))

  rolled_there : (given pages : List Page) (appended : List Appended) → RolledBackInBrief some tables given pages appended → RolledBackInBrief whole tables given pages appended
  rolled_there given pages appended rolled =
      let same = told appended rolled.updates in
      let back = rolled.rolled_back in
      let all = same_walks (history whole) (history some) (losers_in tables) are in
      record {
        rolled_back = record {
          appended_are = sym same ∙ back.appended_are ∙ same_undone (history whole) (history some) (losers_in tables) are;
          pages_are =
              back.pages_are
              ∙ ap (λ (f : Page → Page). map f given)
              (fun_ext (λ image. same_page (history some) (history whole) (appended_records (history some) appended) image are.last ∙ ap (λ (rs : List LogRecord). undone_page (history whole) rs image) same));
          no_bad_hop = λ t. ap (λ (w : Walk). w.ends) (sym (all t)) ∙ back.no_bad_hop t;
          met_exist = exist_there (history whole) (history some) (losers_in tables) are (length given) 0 back.met_exist;
          exist = subst (λ (rs : List LogRecord). All (NamesPages (length given)) rs) same back.exist;
        };
        updates = λ k d lt. update_there_too (history whole) (history some) (losers_in tables) are (get_or appended k d) (rolled.updates k d lt);
        writable = λ counted k d lt.
            subst Fits (one_told (history whole) (history some) (losers_in tables) are (get_or appended k d) (rolled.updates k d lt)) (rolled.writable counted k d lt);
      }

  pub suffices : Suffices whole some tables
  suffices = record { rolled_back = rolled_there; told = told; fault = fault_there (history whole) (history some) (losers_in tables) are }

pub gathered_suffices : GatheredSuffices
gathered_suffices whole some tables are = suffices whole some tables are
