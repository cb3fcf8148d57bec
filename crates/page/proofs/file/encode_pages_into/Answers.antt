use Rattle.std.proofs.Common.{◌∙◌, length, ap, arith}
use Rattle.page.proofs.Files.{length-page_text}
use Rattle.page.proofs.Writing.{images_more}
use Rattle.page.proofs.file.encode_pages_into.Goals as goal

pub loop-number-preserved : goal.loop-number-preserved
loop-number-preserved c =
    let page = c.index-pages-number.result in
    images_more c.args.pages.now c.loop-number.number _ c.loop-number.images c.encode_page_into.new.image page c.loop-number.invariant (omega arith) (omega arith)
    c.index-pages-number.is c.encode_page_into.ensures.text c.encode_page_into.ensures.fits (ap length c.encode_page_into.ensures.text ∙ length-page_text page c.encode_page_into.ensures.fits)
