-- The log so far, as a beginning of the log.
use Rattle.std.proofs.Common.{◌≡◌, ◌+◌, cond, refl, inl, inr, suc, ℕ, List, ◌++◌, length, take, drop, sym, subst, ◌∙◌, arith, ◌≤◌}
use Rattle.std.proofs.lemmas.List.{take_at}
use Rattle.std.specs.Prelude.{Result, Ok, Err, Option, Some, None, OnOk, IfSome}
use Rattle.page.specs.declared.fault.Fault.{Fault}
use Rattle.page.specs.declared.fault.Fault.TheVariants.{NoResource, EndTooEarly, WrongCompensation}
use Rattle.std.proofs.lemmas.Bool.{cases_Bool}
use Rattle.log_laws.specs.Meaning.{BasePages}
use Rattle.log_laws.specs.Records.{LogRecord, History, ◌▸◌, LogContent, history, last_lsn, first, base_lsn}
use Rattle.log_laws.specs.Laws.{Obeys, ChainLaw, FinishLaw, CompensationLaw}
use Rattle.log_laws.specs.Tail.{is_end}
use Rattle.log_laws.specs.Store.{NamesPages}
use Rattle.log_laws.proofs.Histories.{record_in_first, size_of_first_le}
use Rattle.log_laws.proofs.Appended.{each_more}
use Rattle.audit.specs.Passing.{Begins}
use Rattle.audit.specs.FirstFault.{BrokenAt, AreSound, FirstBroken, RecordFault}

pub begins_first : (log : LogContent) (lsn : ℕ) → base_lsn (history log) ≤ lsn → Begins (first lsn (history log)) log
begins_first log lsn from n le = sym (record_in_first lsn (history log) n (omega (arith, le, size_of_first_le lsn (history log) from)))

-- one more record
pub sound_more : (base : BasePages) (count : ℕ) (log : History) (lsn : ℕ) (r : LogRecord) → first (lsn + 1) log ≡ first lsn log ▸ r
    → AreSound base count (first lsn log) → NamesPages count r → Obeys base (first lsn log) r → AreSound base count (first (lsn + 1) log)
sound_more base count log lsn r next sound named obeys =
    subst (AreSound base count) (sym next) (record { lawful = (sound.lawful, obeys); named = each_more (NamesPages count) (first lsn log) r sound.named named })

pub record_fault : (base : BasePages) (count : ℕ) (log : History) (e : Fault) → FirstBroken base count log e → RecordFault base count log e
record_fault base count log NoResource h = tt
record_fault base count log e h = h

-- the fault of a record that breaks the law of compensation
pub wrong_end_or_clr : (base : BasePages) (count : ℕ) (log : History) (r : LogRecord) (lsn : ℕ) (e : Fault) → e ≡ cond (is_end r) (EndTooEarly lsn) (WrongCompensation lsn) → lsn ≡ suc (last_lsn log)
    → NamesPages count r → ChainLaw log r → FinishLaw log r → (CompensationLaw log r → ⊥) → BrokenAt base count log r e
wrong_end_or_clr base count log r lsn e is at named chain finish broken =
    elim (cases_Bool (is_end r)) [
      | inl i ↦
          (let f : e ≡ EndTooEarly lsn = is ∙ rw i refl in
          subst (BrokenAt base count log r) (sym f) (at, named, chain, finish, i, broken))
      | inr i ↦
          (let f : e ≡ WrongCompensation lsn = is ∙ rw i refl in
          subst (BrokenAt base count log r) (sym f) (at, named, chain, finish, i, broken))
    ]

-- what a vector holds after its elements were borrowed and written
pub written_back : {X : Type 0} (n : ℕ) (items ws : List X) → length items ≡ n → length ws ≡ n → take n (ws ++ drop (length ws) items) ≡ ws
written_back n items ws e f = take_at ws (drop (length ws) items) n f

-- if P implies Q, a result or a value that keeps P keeps Q
pub on_ok : {T E : Type 0} {P Q : Type 0} (r : Result T E) → (P → Q) → OnOk r P → OnOk r Q
on_ok (Ok x) f h = f h
on_ok (Err e) f h = tt

pub if_some : {T : Type 0} {P Q : T → Type 0} (o : Option T) → ((x : T) → P x → Q x) → IfSome o P → IfSome o Q
if_some None f h = tt
if_some (Some x) f h = f x h
