use Rattle.std.proofs.Common.{◌≡◌, [], Option, None, refl}
use Rattle.chunk_data.specs.Values.{Table}
use Rattle.port_word.specs.Names.{IsSound, MaySee, Picture, after_see, with_input, with_output}
use Rattle.port_word.specs.declared.flags.Flags.{Flags}
use Rattle.port_word.specs.declared.flags.Port.{Port}
use Rattle.port_word.specs.declared.flags.Port.TheVariants.{Input, Output}
use Rattle.proc_api.specs.Names.{BoxPicture, FollowsKept}
use Rattle.proc_api.proofs.Follows.{follows-seen-input, follows-seen-output}
use Rattle.exec_tests.proofs.driven.see.Goals as goal

seen_follows : (p : BoxPicture) (v : Picture) (port : Port) (g : Flags) (c : Option Table)
    → IsSound v → MaySee v port g c → FollowsKept p v → FollowsKept p (after_see v port g c)
seen_follows p v (Input i) g c sound may f = follows-seen-input p v i g c sound may f
seen_follows p v (Output o) g c sound may f = follows-seen-output p v o g (record {
  ours = may.ours;
  taken = may.taken;
  fin_out = may.fin_out;
  fin_in = may.fin_in;
  own_bits = may.own_bits;
  stays_empty = may.stays_empty;
  keeps_chunk = may.keeps_chunk;
  chunk_due = refl;
}) f

seen_actions : (v : Picture) (port : Port) (g : Flags) (c : Option Table) → v.actions ≡ []
    → (after_see v port g c).actions ≡ []
unfolding with_input with_output
seen_actions v (Input i) g c e = e
seen_actions v (Output o) g c e = e

pub returns-clause-follows : goal.returns-clause-follows
returns-clause-follows c = λ p f. rw c.see.ensures.after
    (seen_follows p _ c.args.port c.args.flags c.args.chunk c.inputs-inputs.ensures.sound c.requires
    f)

pub returns-clause-taken : goal.returns-clause-taken
returns-clause-taken c = rw c.see.ensures.after
    (seen_actions _ c.args.port c.args.flags c.args.chunk c.requires.taken)
