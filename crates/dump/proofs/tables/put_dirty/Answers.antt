use Rattle.std.proofs.Common.{suc, ◌≡◌, ◌+◌, ◌++◌, ◌∙◌, ap, sym, take, arith}
use Rattle.dump.specs.Tables.{between, between_at, listed, dirty_entry}
use Rattle.dump.proofs.Texts.{listed_more, put_behind}
use Rattle.dump.proofs.tables.put_dirty.Goals as goal

pub loop-place-preserved : goal.loop-place-preserved
loop-place-preserved c =
    let style = c.args.style in
    let place = c.loop-place.place in
    let entry = c.entry.result in
    let next : suc place ≡ place + 1 = omega arith in
    let spell = dirty_entry style in
    put_behind _ (listed (between style) spell (take place c.args.table.now)) (between_at style place) (spell entry) _ _ _ c.loop-place.invariant c.in_ok-put_between.ensures c.in_ok-put_dirty_page.ensures
    ∙ ap (λ e. c.extend_from_slice.new.self.items ++ (listed (between style) spell (take place c.args.table.now) ++ (between_at style place ++ spell e))) (sym (c.entry.ensures entry))
    ∙ ap (λ text. c.extend_from_slice.new.self.items ++ text) (sym (listed_more (between style) spell c.args.table.now place entry (omega arith)) ∙ ap (λ n. listed (between style) spell (take n c.args.table.now)) next)
