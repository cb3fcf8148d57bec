use Rattle.std.proofs.Common.{◌≡◌, List, ℕ, sym, subst}
use Rattle.page.specs.File.{SpellsStore}
use Rattle.log_laws.specs.Meaning.{BasePages}
use Rattle.recovery.specs.Recovery.{AreLawful}
use Rattle.aries_c.proofs.recovered.recovery_in.Goals as goal

-- bytes that are copied are lawful as those that they are copies of
abbrev copied : {base : BasePages} {log store : List ℕ} (copy : List ℕ) → copy ≡ store → AreLawful base log store → AreLawful base log copy
copied copy is bytes = record {
  decoded = record {
    read = bytes.decoded.read;
    torn = bytes.decoded.torn;
    before = bytes.decoded.before;
    reads = bytes.decoded.reads;
    spells = subst (λ (text : List ℕ). SpellsStore text bytes.decoded.before) (sym is) bytes.decoded.spells;
  };
  lawful = bytes.lawful;
}

pub returns-clause-lawful : goal.returns-clause-lawful
returns-clause-lawful c = λ base bytes. c.recovery_alone.ensures.lawful base (copied c.in_ok-store.store.items c.in_ok-store.ensures.items bytes)

pub returns-clause-short : goal.returns-clause-short
returns-clause-short c = λ base bytes. c.recovery_alone.ensures.short base (copied c.in_ok-store.store.items c.in_ok-store.ensures.items bytes)
