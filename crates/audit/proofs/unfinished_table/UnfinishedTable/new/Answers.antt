use Rattle.std.proofs.Common.{ℕ, List, Option, None, ap, ◌∙◌, arith}
use Rattle.std.proofs.lemmas.List.{get_or-replicate}
use Rattle.std.specs.Map.{lookup}
use Rattle.std.specs.Prelude.{◌%◌}
use Rattle.std.specs.Ordering.{nat_cmp, is_eq}
use Rattle.audit.specs.declared.status.Status.{Status}
use Rattle.audit.specs.Unfinished.{own_or}
use Rattle.audit.specs.declared.unfinished_table.TheConstants.{PLACES}
use Rattle.audit.proofs.unfinished_table.UnfinishedTable.new.Goals as goal

pub returns : goal.returns
returns c = λ t.
    ap (λ (o : Option (ℕ × Status)). own_or t o (lookup (λ k. is_eq (nat_cmp t k)) c.new.result.entries)) (get_or-replicate PLACES (t % PLACES) None None (omega arith))
    ∙ ap (λ (es : List (ℕ × Status)). lookup (λ k. is_eq (nat_cmp t k)) es) c.new.ensures.empty
