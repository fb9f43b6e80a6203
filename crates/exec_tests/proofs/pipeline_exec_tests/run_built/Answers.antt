use Rattle.exec_tests.proofs.pipeline_exec_tests.run_built.Goals as goal

pub run_graph-boxes-requires-clause-starting : goal.run_graph-boxes-requires-clause-starting
run_graph-boxes-requires-clause-starting g c κs lives = c.in-Ok.ensures.starting c.requires.starting
