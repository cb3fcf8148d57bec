use Rattle.std.proofs.Common.{arith, refl}
use Rattle.log_laws.specs.declared.start.LogStart.TheVariants.{Version1, Version2}
use Rattle.aries_c.proofs.log_writing.aries_write_log_header.Goals as goal

pub returns-in-1-clause-written : goal.returns-in-1-clause-written
returns-in-1-clause-written c = λ done.
    record { text = _; is_text = (Version1, (c.in-1.is, c.if-base_lsn-eq0.true), tt, c.plain_header.ensures); stands = c.put.ensures.written done; length_is = c.put.ensures.told }

pub returns-in-1-clause-no_room : goal.returns-in-1-clause-no_room
returns-in-1-clause-no_room c = λ short.
    record { text = _; is_text = (Version1, (c.in-1.is, c.if-base_lsn-eq0.true), tt, c.plain_header.ensures); short = (c.put.ensures.short (λ none. omega (arith, short, none))).1.0; length_is = c.put.ensures.told }

pub returns-in-2-clause-written : goal.returns-in-2-clause-written
returns-in-2-clause-written c = λ done.
    record { text = _; is_text = (Version2 c.args.base_lsn, (c.in-2.is, refl), c.if-base_lsn-le-LARGEST_BASE.true, c.based_header.ensures); stands = c.put-in-2.ensures.written done; length_is = c.put-in-2.ensures.told }

pub returns-in-2-clause-no_room : goal.returns-in-2-clause-no_room
returns-in-2-clause-no_room c = λ short.
    record { text = _; is_text = (Version2 c.args.base_lsn, (c.in-2.is, refl), c.if-base_lsn-le-LARGEST_BASE.true, c.based_header.ensures); short = (c.put-in-2.ensures.short (λ none. omega (arith, short, none))).1.0; length_is = c.put-in-2.ensures.told }
