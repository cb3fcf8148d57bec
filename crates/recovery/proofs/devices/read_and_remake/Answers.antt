use Rattle.std.proofs.Common.{inl, inr, refl}
use Rattle.std.proofs.lemmas.Result.{err_from_is_err_and, IfErr-at_err}
use Rattle.page.specs.declared.fault.Fault.TheVariants.{ReadLog, ReadStore}
use Rattle.recovery.specs.LogText.{text_of}
use Rattle.recovery.specs.Devices.{IsFaultOf}
use Rattle.recovery.proofs.Decoded.{at_end, both_read}
use Rattle.recovery.proofs.Delivered.{device_cause, is_resource, never_sink, of_source, told_lawful}
use Rattle.recovery.proofs.NewLogs.{first_cause, first_no_sink, first_read, first_resource}
use Rattle.recovery.proofs.devices.read_and_remake.Goals as goal

pub returns-in_err-text-clause-lawful : goal.returns-in_err-text-clause-lawful
returns-in_err-text-clause-lawful g c = λ base log_text store_bytes tells_log tells_store range bytes.
    let exit = err_from_is_err_and c.from_residual.result c.from_residual.ensures.1 in
    rw (exit.1, exit.2) (first_resource c.in_err-text.field-0.0 (of_source ReadLog c.in_err-text.field-0.0 (inl refl) c.in_err-text.ensures.fault))

pub returns-in_err-text-clause-cause : goal.returns-in_err-text-clause-cause
returns-in_err-text-clause-cause g c =
    let exit = err_from_is_err_and c.from_residual.result c.from_residual.ensures.1 in
    rw (exit.1, exit.2) (first_cause c.in_err-text.field-0.0 _ _ c.args.options.now (of_source ReadLog c.in_err-text.field-0.0 (inl refl) c.in_err-text.ensures.fault))

pub returns-in_err-text-clause-no_sink : goal.returns-in_err-text-clause-no_sink
returns-in_err-text-clause-no_sink g c =
    let exit = err_from_is_err_and c.from_residual.result c.from_residual.ensures.1 in
    rw (exit.1, exit.2) (first_no_sink c.in_err-text.field-0.0 (of_source ReadLog c.in_err-text.field-0.0 (inl refl) c.in_err-text.ensures.fault))

pub returns-in_err-text-clause-read_to_ends : goal.returns-in_err-text-clause-read_to_ends
returns-in_err-text-clause-read_to_ends g c =
    let exit = err_from_is_err_and c.from_residual.result c.from_residual.ensures.1 in
    rw (exit.1, exit.2) (first_read c.in_err-text.field-0.0 _ (of_source ReadLog c.in_err-text.field-0.0 (inl refl) c.in_err-text.ensures.fault))

pub returns-in_err-decoded-clause-lawful : goal.returns-in_err-decoded-clause-lawful
returns-in_err-decoded-clause-lawful g c = λ base log_text store_bytes tells_log tells_store range bytes.
    let exit = err_from_is_err_and c.from_residual-in_err-decoded.result c.from_residual-in_err-decoded.ensures.1 in
    rw (exit.1, exit.2) (first_resource c.in_err-decoded.field-0.0 (of_source ReadStore c.in_err-decoded.field-0.0 (inr refl) (IfErr-at_err (IsFaultOf ReadStore) c.in_err-decoded.was c.decode_both-records.ensures.store.fault)))

pub returns-in_err-decoded-clause-cause : goal.returns-in_err-decoded-clause-cause
returns-in_err-decoded-clause-cause g c =
    let exit = err_from_is_err_and c.from_residual-in_err-decoded.result c.from_residual-in_err-decoded.ensures.1 in
    rw (exit.1, exit.2) (first_cause c.in_err-decoded.field-0.0 _ _ c.args.options.now (of_source ReadStore c.in_err-decoded.field-0.0 (inr refl) (IfErr-at_err (IsFaultOf ReadStore) c.in_err-decoded.was c.decode_both-records.ensures.store.fault)))

pub returns-in_err-decoded-clause-no_sink : goal.returns-in_err-decoded-clause-no_sink
returns-in_err-decoded-clause-no_sink g c =
    let exit = err_from_is_err_and c.from_residual-in_err-decoded.result c.from_residual-in_err-decoded.ensures.1 in
    rw (exit.1, exit.2) (first_no_sink c.in_err-decoded.field-0.0 (of_source ReadStore c.in_err-decoded.field-0.0 (inr refl) (IfErr-at_err (IsFaultOf ReadStore) c.in_err-decoded.was c.decode_both-records.ensures.store.fault)))

pub returns-in_err-decoded-clause-read_to_ends : goal.returns-in_err-decoded-clause-read_to_ends
returns-in_err-decoded-clause-read_to_ends g c =
    let exit = err_from_is_err_and c.from_residual-in_err-decoded.result c.from_residual-in_err-decoded.ensures.1 in
    rw (exit.1, exit.2) (first_read c.in_err-decoded.field-0.0 _ (of_source ReadStore c.in_err-decoded.field-0.0 (inr refl) (IfErr-at_err (IsFaultOf ReadStore) c.in_err-decoded.was c.decode_both-records.ensures.store.fault)))

pub returns-in_err-remade-clause-lawful : goal.returns-in_err-remade-clause-lawful
returns-in_err-remade-clause-lawful g c = λ base log_text store_bytes tells_log tells_store range bytes.
    let exit = err_from_is_err_and c.from_residual-in_err-remade.result c.from_residual-in_err-remade.ensures.1 in
    let (text, read, decodes) = both_read c.in_ok-decoded.decoded c.in_ok-text.ensures.gave c.in_ok-decoded.was c.decode_both-records.ensures.store.read in
    let log = text_of c.in_ok-text.text in
    rw (exit.1, exit.2) (is_resource c.in_err-remade.field-0.0 (c.in_err-remade.ensures.lawful base log text c.decode_both-records.ensures.log decodes (told_lawful log text log_text store_bytes read tells_log tells_store bytes)))

pub returns-in_err-remade-clause-cause : goal.returns-in_err-remade-clause-cause
returns-in_err-remade-clause-cause g c =
    let exit = err_from_is_err_and c.from_residual-in_err-remade.result c.from_residual-in_err-remade.ensures.1 in
    let (text, read, decodes) = both_read c.in_ok-decoded.decoded c.in_ok-text.ensures.gave c.in_ok-decoded.was c.decode_both-records.ensures.store.read in
    let log = text_of c.in_ok-text.text in
    rw (exit.1, exit.2)
    (device_cause (g.LR.Source.left c.args.log.now) (g.SR.Source.left c.args.store.now) c.args.options.now log text c.in_err-remade.field-0.0 read (c.in_err-remade.ensures.cause log text c.decode_both-records.ensures.log decodes))

pub returns-in_err-remade-clause-no_sink : goal.returns-in_err-remade-clause-no_sink
returns-in_err-remade-clause-no_sink g c =
    let exit = err_from_is_err_and c.from_residual-in_err-remade.result c.from_residual-in_err-remade.ensures.1 in
    let (text, read, decodes) = both_read c.in_ok-decoded.decoded c.in_ok-text.ensures.gave c.in_ok-decoded.was c.decode_both-records.ensures.store.read in
    let log = text_of c.in_ok-text.text in
    rw (exit.1, exit.2) (never_sink log text c.args.options.now c.in_err-remade.field-0.0 (c.in_err-remade.ensures.cause log text c.decode_both-records.ensures.log decodes))

pub returns-in_err-remade-clause-read_to_ends : goal.returns-in_err-remade-clause-read_to_ends
returns-in_err-remade-clause-read_to_ends g c =
    let exit = err_from_is_err_and c.from_residual-in_err-remade.result c.from_residual-in_err-remade.ensures.1 in
    rw (exit.1, exit.2) (λ after. (c.in_ok-text.ensures.end, at_end _ _ c.in_ok-decoded.decoded c.in_ok-decoded.was c.decode_both-records.ensures.store.end))

pub returns-clause-lawful : goal.returns-clause-lawful
returns-clause-lawful g c = λ base log_text store_bytes tells_log tells_store range bytes.
    let (text, read, decodes) = both_read c.in_ok-decoded.decoded c.in_ok-text.ensures.gave c.in_ok-decoded.was c.decode_both-records.ensures.store.read in
    let log = text_of c.in_ok-text.text in
    c.in_ok-remade.ensures.lawful base log text c.decode_both-records.ensures.log decodes (told_lawful log text log_text store_bytes read tells_log tells_store bytes)

pub returns-clause-made : goal.returns-clause-made
returns-clause-made g c =
    let (text, read, decodes) = both_read c.in_ok-decoded.decoded c.in_ok-text.ensures.gave c.in_ok-decoded.was c.decode_both-records.ensures.store.read in
    record { within = c.in_ok-text.ensures.is.within; store = text; are_read = read; remakes = c.in_ok-remade.ensures.answer (text_of c.in_ok-text.text) text c.decode_both-records.ensures.log decodes }

pub returns-clause-end : goal.returns-clause-end
returns-clause-end g c = (c.in_ok-text.ensures.end, at_end _ _ c.in_ok-decoded.decoded c.in_ok-decoded.was c.decode_both-records.ensures.store.end)
