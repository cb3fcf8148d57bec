use Rattle.std.proofs.Common.{◌≡◌, ◌++◌, ◌-◌, List, ℕ, length, take, drop, ap, ap₂, sym, ◌∙◌, arith}
use Rattle.recovery.specs.declared.recovery.Remade.{Remade}
use Rattle.recovery.specs.LogText.{text_of}
use Rattle.recovery.proofs.LogTexts.{kept_is}
use Rattle.recovery.proofs.log_bytes.LogBytes.kept_of.Goals as goal

pub returns : goal.returns
returns c =
    let torn = c.args.remade.now.report.torn in
    let front = c.deref-2.result.now in
    let back = c.split_at.result.1.now in
    let text : front ++ back ≡ text_of c.args.text.now =
    ap₂ (λ (a b : List ℕ). a ++ b) c.deref-2.ensures.value (c.split_at.ensures.back ∙ ap (drop c.args.text.now.from) c.deref.ensures.value) in
    let told = ap (λ (r : Remade). r.report.torn) c.remade.view_is in
    let less : c.saturating_sub.result ≡ torn - length back = c.saturating_sub.ensures ∙ ap (λ n. n - length back) told in
    let rest : c.saturating_sub-2.result ≡ length back - torn = c.saturating_sub-2.ensures ∙ ap (λ n. length back - n) told in
    ap₂ (λ (a b : List ℕ). a ++ b) c.split_at-2.ensures.front c.split_at-3.ensures.front
    ∙ kept_is front back torn c.len-2.result c.min-torn_in_front.result c.saturating_sub-2.result (c.len-2.ensures ∙ sym c.deref-2.ensures.len) (omega (arith, c.min-torn_in_front.ensures, c.len.ensures, c.len-2.ensures, less)) rest
    ∙ ap (λ (t : List ℕ). take (length t - torn) t) text
