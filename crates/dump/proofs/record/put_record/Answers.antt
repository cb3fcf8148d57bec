use Rattle.wal.specs.Content.{shown}
use Rattle.dump.proofs.Texts.{record_written}
use Rattle.dump.proofs.record.put_record.Goals as goal

pub returns : goal.returns
returns c =
    record_written c.args.style c.args.offset c.args.lsn (shown c.args.view.now) c.args.line.now.items c.kind_word.result.now _ _ _ _ _ _ _ c.kind_word.ensures.word c.put_opening-at.ensures.text c.put_number_field-at.ensures.text
    c.put_short_fields-at.ensures.text c.in_ok-extend_from_slice.ensures.items c.in_ok-put_tables.ensures c.closing.ensures c.in_ok-extend_from_slice-2.ensures.items
