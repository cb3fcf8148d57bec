use Rattle.std.proofs.Common.{◌≡◌, ℕ, Bool, true, false, List, Contains, MatchBool, slice_index_or, refl, ap, subst}
use Rattle.board.proofs.Seats.{open_from_flag, ended_from_flag}
use Rattle.board.proofs.seat.Seat.knows_ended.Goals as goal

told : (b : Bool) (P Q : Type 0) → (b ≡ true → P) → (b ≡ false → Q) → MatchBool b P Q
told true P Q p q = p refl
told false P Q p q = q refl

pub returns : goal.returns
returns c =
    let same = ap (λ h. h.ended) c.self.view_is in
    told (slice_index_or c.self.inside.ended c.args.range false) _ _ (λ e. subst (λ (l : List ℕ). Contains l c.args.range) same (ended_from_flag c.self.inside c.self.invariant c.args.range c.requires e))
    (λ e. subst (λ (l : List ℕ). Contains l c.args.range → ⊥) same (open_from_flag c.self.inside c.self.invariant c.args.range c.requires e))
