-- Calls that read a device again: one after another, and into a room that takes each frame.
use Rattle.std.proofs.Common.{◌≡◌, ℕ, List, Option, Some, Result, Ok, refl, ◌∙◌}
use Rattle.std.specs.Prelude.{OnOk, Err}
use Rattle.device.proofs.Reach.{grows_none, grows_on}
use Rattle.passes.specs.declared.fault.PassFault.{PassFault}
use Rattle.passes.specs.Calls.{HasRead, HasReadOn}
use Rattle.passes.proofs.Reached.{still_told, keeps_same, keeps_on}

-- THE DEVICE is still as it was in this
-- it still holds these bytes
pub still : {D T : Type 0} {text : D → Option (List ℕ)} {failures read_to : D → ℕ} {old new : D} {result : Result T PassFault} {bytes : List ℕ} → HasRead text failures read_to old new result → text old ≡ Some bytes → text new ≡ Some bytes
still {text = text} {old = old} {new = new} {bytes = bytes} read is = still_told (text old) (text new) bytes read.same is

-- before the first call
pub read_none : {D : Type 0} {text : D → Option (List ℕ)} {failures read_to : D → ℕ} {device : D} → HasReadOn text failures read_to device device
read_none {text = text} {read_to = read_to} {device = device} = record { same = keeps_same (text device); grows = grows_none (text device) (read_to device); counted = refl }

-- with one more call
pub reads_on : {D T : Type 0} {text : D → Option (List ℕ)} {failures read_to : D → ℕ} {old now new : D} {x : T}
    → HasReadOn text failures read_to old now → HasRead text failures read_to now new (Ok x) → HasReadOn text failures read_to old new
reads_on {text = text} {read_to = read_to} {old = old} {now = now} {new = new} before more = record {
  same = keeps_on (text old) (text now) (text new) before.same more.same;
  grows = grows_on (text old) (text now) (read_to old) (read_to now) (read_to new) before.same before.grows more.grows;
  counted = more.counted ∙ before.counted;
}

-- WHAT FOLLOWS from two facts about a success
pub on_ok_both : {T E P Q R : Type 0} (result : Result T E) → (P → Q → R) → OnOk result P → OnOk result Q → OnOk result R
on_ok_both (Ok x) both p q = both p q
on_ok_both (Err e) both p q = tt
