use Rattle.exec_tests.proofs.pipeline_exec_tests.run_boxes.Goals as goal

pub loop-node-preserved : goal.loop-node-preserved
loop-node-preserved g c = c.in_ok-add-in-Some.ensures c.loop-node.invariant
