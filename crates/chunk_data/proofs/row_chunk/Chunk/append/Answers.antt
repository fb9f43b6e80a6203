use Rattle.chunk_data.proofs.Imports.{ap}
use Rattle.chunk_data.proofs.Chunks.{taken_step}
use Rattle.chunk_data.proofs.row_chunk.Chunk.append.Goals as goal

pub returns-then-self-eq0-clause-ok : goal.returns-then-self-eq0-clause-ok
returns-then-self-eq0-clause-ok c =
    taken_step _ _ _ _ c.args.other _ c.self.invariant c.if-self-eq0.true c.self.view_is
    (ap (λ t. t.rows) c.other.view_is)
