use denote.Exit as exit
use Rattle.pipeline_exec.proofs.Imports.{arg_send, noted_sent, param_send}
use Rattle.pipeline_exec.proofs.gathering.gather_into.Goals as goal

pub gather-requires-send-G : goal.gather-requires-send-G
gather-requires-send-G g c κs = param_send 0 _ (arg_send _ exit.no _ noted_sent)
