use Rattle.std.proofs.Common.{◌≡◌, ◌+◌, ◌*◌, ℕ, List, [], ◌∷◌, ◌++◌, length, refl, subst, arith, length-append, append_assoc}
use Rattle.std.specs.Int.{w32, w64, to_be_bytes}
use Rattle.log_laws.specs.Records.{TableEntry, CheckpointBegin, CheckpointEnd}
use Rattle.wal.specs.Spelling.{body, frame}
use Rattle.journal.specs.Listed.{entries_listed, dirty_listed}
use Rattle.journal.specs.Writing.{Begins}
use Rattle.journal.proofs.TakenText.{rows_text, dirty_text, rows_size, end_size, head_text}
use Rattle.journal.proofs.checkpoints.put_checkpoint.Goals as goal

pub returns : goal.returns
returns c =
    let b : List ℕ = c.args.out.now in
    let begin : ℕ = c.args.begin in
    let lsn : ℕ = c.args.lsn in
    let ts : List TableEntry = entries_listed c.args.entries.now in
    let ds : List (ℕ × ℕ) = dirty_listed c.args.pages.now in
    let n : ℕ = 25 + (21 * c.args.rows + 12 * c.args.dirties) in
    let s1 : List ℕ = to_be_bytes w32 9 ++ 6 ∷ to_be_bytes w64 begin in
    let s2 : List ℕ = to_be_bytes w32 n ++ 7 ∷ to_be_bytes w64 lsn in
    let h1 : Begins s1 b c.put.new.out = subst (λ t. Begins t b c.put.new.out) c.bytes.ensures (c.put.ensures [] b refl refl) in
    let h2 : Begins (s1 ++ s2) b c.put-2.new.out = subst (λ t. Begins (s1 ++ t) b c.put-2.new.out) c.bytes-2.ensures (c.put-2.ensures s1 b refl h1) in
    let h3 = subst (λ t. Begins ((s1 ++ s2) ++ t) b c.put-3.new.out) c.to_be_bytes.ensures (c.put-3.ensures (s1 ++ s2) b refl h2) in
    let h4' = subst (λ t. Begins (((s1 ++ s2) ++ to_be_bytes w64 begin) ++ t) b c.put-4.new.out) c.to_be_bytes-2.ensures (c.put-4.ensures ((s1 ++ s2) ++ to_be_bytes w64 begin) b refl h3) in
    let h4 : Begins (head_text begin lsn ts ds n) b c.put-4.new.out = subst (λ k. Begins (((s1 ++ s2) ++ to_be_bytes w64 begin) ++ to_be_bytes w32 k) b c.put-4.new.out) c.requires.rows h4' in
    let h5 = c.put_entries-middle.ensures.text (head_text begin lsn ts ds n) b refl h4 in
    let long5 : length (head_text begin lsn ts ds n ++ rows_text begin lsn ts ds) ≡ c.put_entries-middle.result = omega (arith, c.put_entries-middle.ensures.end, rows_size begin lsn ts ds) in
    let h6' = subst (λ t. Begins ((head_text begin lsn ts ds n ++ rows_text begin lsn ts ds) ++ t) b c.put-5.new.out) c.to_be_bytes-3.ensures (c.put-5.ensures (head_text begin lsn ts ds n ++ rows_text begin lsn ts ds) b long5 h5) in
    let h6 : Begins ((head_text begin lsn ts ds n ++ rows_text begin lsn ts ds) ++ to_be_bytes w32 (length ds)) b c.put-5.new.out =
    subst (λ k. Begins ((head_text begin lsn ts ds n ++ rows_text begin lsn ts ds) ++ to_be_bytes w32 k) b c.put-5.new.out) c.requires.dirties h6' in
    let long6 : length ((head_text begin lsn ts ds n ++ rows_text begin lsn ts ds) ++ to_be_bytes w32 (length ds)) ≡ c.put_entries-middle.result + 4 =
    omega (arith, long5, length-append (head_text begin lsn ts ds n ++ rows_text begin lsn ts ds) (to_be_bytes w32 (length ds))) in
    let h7 = c.put_dirties.ensures.text ((head_text begin lsn ts ds n ++ rows_text begin lsn ts ds) ++ to_be_bytes w32 (length ds)) b long6 h6 in
    let parted = append_assoc (rows_text begin lsn ts ds) (to_be_bytes w32 (length ds)) (dirty_text begin lsn ts ds) in
    let h8 = subst (λ t. Begins (head_text begin lsn ts ds n ++ t) b c.put_dirties.new.out) parted h7 in
    let size : n ≡ length (body (CheckpointEnd begin ts ds) lsn) = omega (arith, end_size begin lsn ts ds, c.requires.rows, c.requires.dirties) in
    let h9 : Begins (frame CheckpointBegin begin ++ frame (CheckpointEnd begin ts ds) lsn) b c.put_dirties.new.out =
    subst (λ k. Begins (head_text begin lsn ts ds k ++ (rows_text begin lsn ts ds ++ (to_be_bytes w32 (length ds) ++ dirty_text begin lsn ts ds))) b c.put_dirties.new.out) size h8 in
    record {
      text = subst (λ k. Begins (frame CheckpointBegin begin ++ frame (CheckpointEnd begin ts ds) k) b c.put_dirties.new.out) c.requires.lsn h9;
      size = omega (arith, c.put_dirties.ensures.end, c.put_entries-middle.ensures.end, end_size begin (begin + 1) ts ds, c.requires.rows, c.requires.dirties);
    }
