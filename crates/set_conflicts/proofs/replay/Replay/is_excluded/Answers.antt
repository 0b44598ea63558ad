use Rattle.set_conflicts.proofs.replay.Replay.is_excluded.Goals as goal

pub returns-in-Decision : goal.returns-in-Decision
returns-in-Decision c = λ t. c.is_passed_over.ensures t c.args.self.now.frames.items c.requires.replay.front
