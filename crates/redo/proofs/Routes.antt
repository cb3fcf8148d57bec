-- Routes: the LSNs of a stretch, and the stretches of all workers together.
use Rattle.std.proofs.Common.{◌≡◌, ℕ, zero, suc, ◌+◌, ◌-◌, ◌<◌, ◌≤◌, Bool, false, cond, ◌&&◌, leb, List, [], ◌∷◌, ◌++◌, Result, Ok, Err, map, length, get_or, refl, sym, ap, ◌∙◌, subst, arith, length-append, append-nil}
use Rattle.std.proofs.lemmas.Bool.{lt-leb}
use Rattle.std.proofs.lemmas.List.{length-map, get_or_append_left}
use Rattle.std.proofs.Math.Seq.{get_or-append_seam}
use Rattle.std.proofs.Math.ListN.{get_or-map}
use mathlib.Core.Logic.{dite}
use native.Mathlib.Decide.{dec_lt}
use Rattle.page.specs.declared.fault.Fault.{Fault}
use Rattle.page.specs.declared.fault.Fault.TheVariants.{NoResource, NoSuchPage}
use Rattle.log_laws.specs.Records.{LogRecord, History, start, ◌▸◌, last_lsn, history, LogContent}
use Rattle.redo.specs.Changes.{lsns_where}
use Rattle.redo.specs.Inputs.{InputContent}
use Rattle.redo.specs.Parted.{PartedContent}
use Rattle.redo.specs.declared.route.Route.{Route}
use Rattle.redo.specs.Routes.{ExistWithin, RouteFault, IsRoute, IfRoute, IfEach, RoundFault, AreRoutes, boundary_in, skipped_in}
use Rattle.redo.proofs.Stretches.{boundary_first}

-- what a worker returns that has its route
abbrev pub answered : Route → Result Route Fault
answered route = Ok route

-- nothing is above the end of a log
pub lsns_none : (test : LogRecord → Bool) (from : ℕ) (log : History) → last_lsn log ≤ from → lsns_where test from log ≡ []
lsns_none test from (start _) le = refl
lsns_none test from (log ▸ r) le =
    let b : leb from (last_lsn log) ≡ false = lt-leb from (last_lsn log) (omega arith) in
    ap (λ t. cond (t && test r) (lsns_where test from log ++ suc (last_lsn log) ∷ []) (lsns_where test from log)) b ∙ lsns_none test from log (omega arith)

-- stretch after stretch
pub exist_join : (log : LogContent) (count a b c : ℕ) → ExistWithin log count a b → ExistWithin log count b c → ExistWithin log count a c
exist_join log count a b c h g lsn r past within at = dite (dec_lt b lsn) (λ lt. g lsn r lt within at) (λ ge. h lsn r past (omega arith) at)

pub exist_none : (log : LogContent) (count a : ℕ) → ExistWithin log count a a
exist_none log count a lsn r past within at = absurd (omega arith)

module _ (input : InputContent) (workers : ℕ) where
  -- the records of the first k stretches
  exist_first : (k : ℕ) → ((j : ℕ) → j < k → ExistWithin input.log (length input.images) (boundary_in input workers j) (boundary_in input workers (j + 1)))
      → ExistWithin input.log (length input.images) (skipped_in input) (boundary_in input workers k)
  exist_first zero h =
      subst (ExistWithin input.log (length input.images) (skipped_in input)) (sym (boundary_first (skipped_in input) (last_lsn (history input.log)) workers)) (exist_none input.log (length input.images) (skipped_in input))
  exist_first (suc k) h =
      let here : ExistWithin input.log (length input.images) (boundary_in input workers k) (boundary_in input workers (suc k)) = subst (λ n. ExistWithin input.log (length input.images) (boundary_in input workers k) (boundary_in input workers n)) (omega arith) (h k (omega arith)) in
      exist_join input.log (length input.images) (skipped_in input) (boundary_in input workers k) (boundary_in input workers (suc k)) (exist_first k (λ j lt. h j (omega arith))) here

-- all records that are looked at are on pages of the store
pub all_exist : (parted : PartedContent) (routes : List Route) → AreRoutes parted routes → ExistWithin parted.input.log (length parted.input.images) (skipped_in parted.input) (boundary_in parted.input (length routes) (length routes))
all_exist parted [] are = absurd (let some = are.some in omega arith)
all_exist parted (r ∷ rs) are = exist_first parted.input (length (r ∷ rs)) (length (r ∷ rs)) (λ j lt. (are.each j r lt).exist)

module _ (parted : PartedContent) (results : List (Result Route Fault)) (each : IfEach parted results) where
  -- the route of a worker that returned one
  route_at : (routes : List Route) (more : List (Result Route Fault)) → results ≡ map answered routes ++ more → (k : ℕ) (d : Route) → k < length routes → IsRoute parted (boundary_in parted.input (length results) k) (boundary_in parted.input (length results) (k + 1)) (get_or routes k d)
  route_at routes more are k d lt =
      let within : k < length results = omega (arith, ap (λ (xs : List (Result Route Fault)). length xs) are, length-append (map answered routes) more, length-map routes answered) in
      let at : get_or results k (Ok d) ≡ Ok (get_or routes k d) =
      ap (λ (xs : List (Result Route Fault)). get_or xs k (Ok d)) are
      ∙ get_or_append_left (map answered routes) more (Ok d) k (omega (arith, length-map routes answered))
      ∙ get_or-map answered routes k d in
      subst (IfRoute parted (length results) k) at (each k (Ok d) within)

  pub routes_are : (routes : List Route) → 0 < length results → results ≡ map answered routes → AreRoutes parted routes
  routes_are routes some are =
      let count : length results ≡ length routes = ap (λ (xs : List (Result Route Fault)). length xs) are ∙ length-map routes answered in
      record {
        some = omega arith;
        each = λ k d lt. subst (λ n. IsRoute parted (boundary_in parted.input n k) (boundary_in parted.input n (k + 1)) (get_or routes k d)) count (route_at routes [] (are ∙ sym (append-nil (map answered routes))) k d lt);
      }

  -- the first worker that returned no route
  pub first_refused : (routes : List Route) (fault : Fault) (more : List (Result Route Fault)) → results ≡ map answered routes ++ Err fault ∷ more → RoundFault parted.input fault
  first_refused routes fault more are =
      let n = length results in
      let k = length routes in
      let count : length (map answered routes) ≡ k = length-map routes answered in
      let within : k < n = omega (arith, ap (λ (xs : List (Result Route Fault)). length xs) are, length-append (map answered routes) (Err fault ∷ more), count) in
      let at : get_or results k (Err fault) ≡ Err fault =
      ap (λ (xs : List (Result Route Fault)). get_or xs k (Err fault)) are
      ∙ ap (λ i. get_or (map answered routes ++ Err fault ∷ more) i (Err fault)) (sym count)
      ∙ get_or-append_seam (map answered routes) (Err fault) more (Err fault) in
      let cause : RouteFault parted.input (boundary_in parted.input n k) (boundary_in parted.input n (k + 1)) fault = subst (IfRoute parted n k) at (each k (Err fault) within) in
      let exist : ExistWithin parted.input.log (length parted.input.images) (skipped_in parted.input) (boundary_in parted.input n k) = exist_first parted.input n k (exist_of routes are) in
      of fault exist cause
    where
      exist_of : (rs : List Route) → results ≡ map answered rs ++ Err fault ∷ more → (j : ℕ) → j < length rs → ExistWithin parted.input.log (length parted.input.images) (boundary_in parted.input (length results) j) (boundary_in parted.input (length results) (j + 1))
      exist_of [] is j lt = absurd (omega arith)
      exist_of (r ∷ rs) is j lt = (route_at (r ∷ rs) (Err fault ∷ more) is j r lt).exist

      of : (e : Fault) → ExistWithin parted.input.log (length parted.input.images) (skipped_in parted.input) (boundary_in parted.input (length results) (length routes)) → RouteFault parted.input (boundary_in parted.input (length results) (length routes)) (boundary_in parted.input (length results) (length routes + 1)) e → RoundFault parted.input e
      of NoResource exist cause = tt
      of (NoSuchPage lsn) exist cause =
          let m = cause.1 in
          record {
            entry = m.entry;
            past = omega (arith, m.past);
            there = m.there;
            beyond = m.beyond;
            before = exist_join parted.input.log (length parted.input.images) (skipped_in parted.input) (boundary_in parted.input (length results) (length routes)) (lsn - 1) exist m.before;
          }
      of e exist cause = absurd cause
