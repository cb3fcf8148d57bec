use Rattle.std.proofs.Common.{◌≡◌, ℕ, List, ◌++◌, arith, ap, ap₂, ◌∙◌, length}
use Rattle.std.proofs.lemmas.List.{length-take}
use Rattle.page.specs.Image.{header, directory}
use Rattle.page.proofs.Writing.{three_parts}
use Rattle.page.proofs.Slots.{length-directory}
use Rattle.page.proofs.image.encode_page_into.Goals as goal
use Rattle.page.specs.declared.sizes.TheConstants.{CELLS_AT, PAGE_HEADER_BYTES, DIRECTORY_BYTES}

pub copy_from_slice-requires : goal.copy_from_slice-requires
copy_from_slice-requires c = omega (arith, length-take PAGE_HEADER_BYTES c.args.image.now, ap length c.header.ensures.text)

pub returns-clause-text : goal.returns-clause-text
returns-clause-text c =
    let first = c.copy_from_slice.ensures.after ∙ c.header.ensures.text in
    let long : length c.put_directory.new.entries ≡ DIRECTORY_BYTES = omega (arith, ap length c.put_directory.ensures.text, length-directory CELLS_AT c.args.page.now.slots) in
    three_parts c.args.image.now c.copy_from_slice.new.self c.put_directory.new.entries c.put_cells.new.room PAGE_HEADER_BYTES CELLS_AT DIRECTORY_BYTES _ (ap length first) long (omega arith) (omega arith) (omega arith)
    ∙ ap₂ (λ (h d : List ℕ). h ++ d ++ c.put_cells.new.room) first c.put_directory.ensures.text
    ∙ ap (λ (b : List ℕ). header c.args.page.now.number c.args.page.now.lsn ++ directory CELLS_AT c.args.page.now.slots ++ b) c.put_cells.ensures

pub returns-clause-fits : goal.returns-clause-fits
returns-clause-fits c = record { number = c.header.ensures.fits.0; lsn = c.header.ensures.fits.1; slots = c.put_directory.ensures.count; values = c.put_directory.ensures.fits }
