use Rattle.std.proofs.Common.{◌≡◌, ℕ, List, ◌++◌, ◌-◌, ◌∙◌, All, take, drop, get_or, length, subst, sym, arith}
use Rattle.std.specs.Prelude.{OnOk}
use Rattle.std.proofs.lemmas.List.{take-append-le, take_all}
use Rattle.std.proofs.lemmas.Result.{on_ok_weaker, IfErr-weaker}
use Rattle.passes.specs.ReadOn.{KeepsMarks}
use Rattle.passes.specs.Stretches.{AreFit, AreReadBy, ForEachRead, IsBegunStretch, IsFoundOf, IsStretchOf, SpansMarks}
use Rattle.passes.proofs.Calls.{still}
use Rattle.passes.proofs.ReadOn.{joins_more}
use Rattle.passes.proofs.Stretches.{all_begun, all_fit, all_found, all_span, all_stretches, finds_more, reach_later, reads_more_for}
use Rattle.passes.proofs.rounds.read_round.Goals as goal

-- a list is the front of a longer one
take_whole : {X : Type 0} (xs ys : List X) (n : ℕ) → length xs ≡ n → take n (xs ++ ys) ≡ xs
take_whole xs ys n is = take-append-le n xs ys (omega (arith, is)) ∙ take_all n xs (omega (arith, is))

pub read_stretches-requires-clause-ready : goal.read_stretches-requires-clause-ready
read_stretches-requires-clause-ready g c κs within =
    let each = subst (All (IsBegunStretch g.P.Pages c.args.pages.now)) (sym c.deref_mut.ensures.value) c.in_ok-stretches.ensures.each in
    all_begun g.P.Pages c.args.pages.now c.deref_mut.result.now each

pub take_all-requires-clause-fit : goal.take_all-requires-clause-fit
take_all-requires-clause-fit g c κs within =
    let held = g.S.Reread.text c.guess_firsts.new.source in
    let size = length c.guess_firsts.new.room in
    let olds = c.deref_mut.result.now in
    let news = c.read_stretches.new.stretches in
    let each = subst (All (IsBegunStretch g.P.Pages c.args.pages.now)) (sym c.deref_mut.ensures.value) c.in_ok-stretches.ensures.each in
    let same : length news ≡ c.in_ok-stretches.stretches.len = c.read_stretches.ensures.len ∙ c.deref_mut.ensures.len in
    let back = sym (take_whole news (drop (length news) c.in_ok-stretches.stretches.items) c.in_ok-stretches.stretches.len same) in
    let read = subst (λ h. AreReadBy h size olds news) c.shared.ensures.same c.read_stretches.ensures.each in
    subst (λ xs. AreFit size (length c.args.scan.now.pass.tallies.tallies) xs) back (subst (λ n. AreFit size n news) (sym c.requires.pages) (all_fit g.P.Pages c.args.pages.now held size olds news each c.read_stretches.ensures.len read))

pub take_all-requires-clause-found : goal.take_all-requires-clause-found
take_all-requires-clause-found g c κs within =
    let held = g.S.Reread.text c.guess_firsts.new.source in
    let size = length c.guess_firsts.new.room in
    let olds = c.deref_mut.result.now in
    let news = c.read_stretches.new.stretches in
    let each = subst (All (IsBegunStretch g.P.Pages c.args.pages.now)) (sym c.deref_mut.ensures.value) c.in_ok-stretches.ensures.each in
    let same : length news ≡ c.in_ok-stretches.stretches.len = c.read_stretches.ensures.len ∙ c.deref_mut.ensures.len in
    let back = sym (take_whole news (drop (length news) c.in_ok-stretches.stretches.items) c.in_ok-stretches.stretches.len same) in
    let read = subst (λ h. AreReadBy h size olds news) c.shared.ensures.same c.read_stretches.ensures.each in
    subst (ForEachRead (IsFoundOf held)) back (all_found g.P.Pages c.args.pages.now held size olds news each c.read_stretches.ensures.len read)

pub take_all-requires-clause-span : goal.take_all-requires-clause-span
take_all-requires-clause-span g c κs within =
    let held = g.S.Reread.text c.guess_firsts.new.source in
    let size = length c.guess_firsts.new.room in
    let olds = c.deref_mut.result.now in
    let news = c.read_stretches.new.stretches in
    let each = subst (All (IsBegunStretch g.P.Pages c.args.pages.now)) (sym c.deref_mut.ensures.value) c.in_ok-stretches.ensures.each in
    let same : length news ≡ c.in_ok-stretches.stretches.len = c.read_stretches.ensures.len ∙ c.deref_mut.ensures.len in
    let back = sym (take_whole news (drop (length news) c.in_ok-stretches.stretches.items) c.in_ok-stretches.stretches.len same) in
    let read = subst (λ h. AreReadBy h size olds news) c.shared.ensures.same c.read_stretches.ensures.each in
    subst (All (SpansMarks held)) back (all_span g.P.Pages c.args.pages.now held size olds news each c.read_stretches.ensures.len read)

pub returns-clause-marks : goal.returns-clause-marks
returns-clause-marks g c = subst (λ n. OnOk c.take_all.result (KeepsMarks n c.args.scan.now.marks c.take_all.new.scan.marks)) c.guess_firsts.auto.room c.take_all.ensures.marks

pub returns-clause-analysed : goal.returns-clause-analysed
returns-clause-analysed g c =
    let held = g.S.Reread.text c.guess_firsts.new.source in
    on_ok_weaker c.take_all.result
    (λ on. finds_more (g.S.Reread.text c.args.source.now) held c.args.scan.now c.args.scan.now c.take_all.new.scan (λ text is. still c.in_ok-firsts.ensures.source is) (λ text log is at. (log, at, λ whole torn reads found. found)) on)
    c.take_all.ensures.analysed

pub returns-clause-passed : goal.returns-clause-passed
returns-clause-passed g c =
    let held = g.S.Reread.text c.guess_firsts.new.source in
    let size = length c.guess_firsts.new.room in
    let olds = c.deref_mut.result.now in
    let news = c.read_stretches.new.stretches in
    let each = subst (All (IsBegunStretch g.P.Pages c.args.pages.now)) (sym c.deref_mut.ensures.value) c.in_ok-stretches.ensures.each in
    let same : length news ≡ c.in_ok-stretches.stretches.len = c.read_stretches.ensures.len ∙ c.deref_mut.ensures.len in
    let back = sym (take_whole news (drop (length news) c.in_ok-stretches.stretches.items) c.in_ok-stretches.stretches.len same) in
    let read = subst (λ h. AreReadBy h size olds news) c.shared.ensures.same c.read_stretches.ensures.each in
    on_ok_weaker c.take_all.result
    (λ on stored shown numbered shows. reads_more_for (g.S.Reread.text c.args.source.now) held c.args.scan.now c.args.scan.now c.take_all.new.scan (λ text is. still c.in_ok-firsts.ensures.source is) shown
    (λ text log is at. (log, at, λ whole torn reads. ((λ found. found), (λ tallied. tallied))))
    (on shown (subst (ForEachRead (IsStretchOf held shown)) back (all_stretches g.P.Pages c.args.pages.now held size olds news each c.read_stretches.ensures.len read stored shown numbered shows))))
    c.take_all.ensures.passed

pub returns-clause-reach : goal.returns-clause-reach
returns-clause-reach g c =
    let held = g.S.Reread.text c.guess_firsts.new.source in
    let begun = g.S.Reread.text c.args.source.now in
    let a = g.S.Reread.read_to c.args.source.now in
    let b = g.S.Reread.read_to c.guess_firsts.new.source in
    let marks = c.args.scan.now.marks in
    on_ok_weaker c.take_all.result
    (λ on. joins_more begun held a b (g.S.Reread.read_to c.take_all.new.source) marks marks c.take_all.new.scan.marks c.in_ok-firsts.ensures.source.same
    (λ far d. reach_later begun (get_or marks (length marks - 1) d).offset a b c.in_ok-firsts.ensures.source.grows (far d))
    on)
    c.take_all.ensures.reach

pub returns-clause-fault : goal.returns-clause-fault
returns-clause-fault g c = IfErr-weaker c.take_all.result _ _ (λ e stops text log is at. stops text log (still c.in_ok-firsts.ensures.source is) at) c.take_all.ensures.fault
