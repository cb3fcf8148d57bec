use Rattle.std.proofs.Common.{ℕ, List, ◌∷◌, ◌++◌, length, ap₂, ◌∙◌}
use Rattle.std.specs.Int.{w32, w64, to_be_bytes}
use Rattle.wal.specs.Spelling.{fields, kind_of, body}
use Rattle.wal.specs.Content.{content}
use Rattle.wal.proofs.Keeping.{head_parts}
use Rattle.wal.proofs.frame.put_frame.Goals as goal

pub returns-clause-ok : goal.returns-clause-ok
returns-clause-ok g c =
    let r = content c.args.logged.now in
    head_parts c.args.out.now.items (to_be_bytes w32 (length (body r 0))) (to_be_bytes w64 c.args.lsn) (fields r) c.put_fields.new.out.items (kind_of r)
    (c.in_ok-put_fields.ensures.ok
    ∙ ap₂ (λ (old x : List ℕ). old ++ (x ++ fields r)) c.in_ok-reserve.ensures.items
    (ap₂ (λ (n k : ℕ). to_be_bytes w32 n ++ (k ∷ to_be_bytes w64 c.args.lsn)) c.body_len.ensures c.kind_of.ensures))
