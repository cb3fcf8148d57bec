use Rattle.std.proofs.Common.{◌≡◌, ◌+◌, ◌++◌, [], List, ℕ, length, take, drop, refl, sym, ap, subst, ◌∙◌, arith, append_assoc, append-nil, length-append, length-take}
use Rattle.std.specs.Prelude.{IfSome}
use Rattle.std.proofs.KnownBytes.{Keeps-refl, Keeps-trans}
use Rattle.device.specs.Reread.{ReachesTo}
use Rattle.device.proofs.Reach.{reach_on, read_all}
use Rattle.recovery.specs.declared.store_pieces.TheConstants.{PIECE}
use Rattle.page.specs.declared.fault.Fault.TheVariants.{ReadStore}
use Rattle.page.specs.declared.sizes.TheConstants.{STORE_HEADER_BYTES}
use Rattle.recovery.proofs.ByPieces.{ok_is_no_fault}
use Rattle.recovery.proofs.Rewritten.{come_all, come_more, come_none, decodes_lsns_by}
use Rattle.recovery.proofs.store_changes.read_lsns_behind.Goals as goal

pub loop-offset-init : goal.loop-offset-init
loop-offset-init g c =
    record {
      room = c.requires.room;
      size = c.requires.header;
      whole = (0, refl);
      came = ([], sym (append-nil c.args.reader), come_none (g.R.Reread.text c.args.source.now) STORE_HEADER_BYTES);
      reach = λ begun. begun;
      same = Keeps-refl (g.R.Reread.text c.args.source.now);
      failures = refl;
    }

pub returns-then-count-lt-PIECE-clause-read : goal.returns-then-count-lt-PIECE-clause-read
returns-then-count-lt-PIECE-clause-read g c =
    let inv = c.loop-offset.invariant in
    let old = g.R.Reread.text c.args.source.now in
    let now = g.R.Reread.text c.loop-offset.source in
    let offset = c.loop-offset.offset in
    let buffer : List ℕ = c.read_from.new.buffer in
    let count = c.in_ok-count.count in
    let (behind, is, came) = inv.came in
    let piece : List ℕ = take count buffer in
    let same : c.take.new.self ≡ c.args.reader ++ (behind ++ piece) = c.take.ensures ∙ ap (λ l. l ++ piece) is ∙ append_assoc c.args.reader behind piece in
    let at : offset ≡ STORE_HEADER_BYTES + length behind = omega (arith, ap (λ (l : List ℕ). length l) is, length-append c.args.reader behind, c.requires.header, inv.size) in
    let more = come_more old now STORE_HEADER_BYTES offset behind buffer count inv.same came at c.in_ok-count.ensures.bytes c.in_ok-count.ensures.within in
    let ends = c.in_ok-count.ensures.end (omega (arith, c.if-count-lt-PIECE.true, c.read_from.auto.buffer, inv.room)) in
    let all = come_all old now STORE_HEADER_BYTES (offset + count) (behind ++ piece) inv.same more ends (omega (arith, at, length-append behind piece, length-take count buffer, c.in_ok-count.ensures.within)) in (
      behind ++ piece,
      subst (λ n. IfSome old (λ text. behind ++ piece ≡ drop n text)) (sym c.requires.header) all,
      decodes_lsns_by c.take.new.self (c.args.reader ++ (behind ++ piece)) c.finish-store.result same c.finish-store.ensures.found c.finish-store.ensures.only c.finish-store.ensures.fault,
    )

pub loop-offset-preserved : goal.loop-offset-preserved
loop-offset-preserved g c =
    let inv = c.loop-offset.invariant in
    let old = g.R.Reread.text c.args.source.now in
    let now = g.R.Reread.text c.loop-offset.source in
    let offset = c.loop-offset.offset in
    let buffer : List ℕ = c.read_from.new.buffer in
    let count = c.in_ok-count.count in
    let (behind, is, came) = inv.came in
    let piece : List ℕ = take count buffer in
    let same : c.take.new.self ≡ c.args.reader ++ (behind ++ piece) = c.take.ensures ∙ ap (λ l. l ++ piece) is ∙ append_assoc c.args.reader behind piece in
    let at : offset ≡ STORE_HEADER_BYTES + length behind = omega (arith, ap (λ (l : List ℕ). length l) is, length-append c.args.reader behind, c.requires.header, inv.size) in
    let whole : count ≡ PIECE = omega (arith, c.if-count-lt-PIECE.false, c.in_ok-count.ensures.within, c.read_from.auto.buffer, inv.room) in
    record {
      room = c.read_from.auto.buffer ∙ inv.room;
      size = omega (arith, ap (λ (l : List ℕ). length l) c.take.ensures, length-append c.loop-offset.reader piece, length-take count buffer, inv.size, c.in_ok-count.ensures.within, c.if-count-lt-PIECE.false, c.read_from.auto.buffer, inv.room);
      whole = (inv.whole.0 + 1, omega (arith, inv.whole.1));
      came = (behind ++ piece, same, come_more old now STORE_HEADER_BYTES offset behind buffer count inv.same came at c.in_ok-count.ensures.bytes c.in_ok-count.ensures.within);
      reach = λ begun. subst (λ n. ReachesTo old (offset + n) (g.R.Reread.read_to c.read_from.new.source)) whole (reach_on old now _ _ offset count inv.same (inv.reach begun) c.in_ok-count.ensures.joins);
      same = Keeps-trans old now (g.R.Reread.text c.read_from.new.source) inv.same c.in_ok-count.ensures.same;
      failures = c.in_ok-count.ensures.cause.innocent (ok_is_no_fault c.in_ok-count.count ReadStore) ∙ inv.failures;
    }

pub returns-then-count-lt-PIECE-clause-end : goal.returns-then-count-lt-PIECE-clause-end
returns-then-count-lt-PIECE-clause-end g c =
    let inv = c.loop-offset.invariant in
    let old = g.R.Reread.text c.args.source.now in
    let now = g.R.Reread.text c.loop-offset.source in
    let offset = c.loop-offset.offset in
    let count = c.in_ok-count.count in
    let ends = c.in_ok-count.ensures.end (omega (arith, c.if-count-lt-PIECE.true, c.read_from.auto.buffer, inv.room)) in
    λ begun. read_all old now _ (offset + count) inv.same (reach_on old now _ _ offset count inv.same (inv.reach begun) c.in_ok-count.ensures.joins) ends
