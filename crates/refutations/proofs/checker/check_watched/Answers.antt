use Rattle.refutations.proofs.checker.check_watched.Goals as goal

pub returns-clause-none : goal.returns-clause-none
returns-clause-none g c = λ h. c.an_accepted_refutation_leaves_no_solution.ensures.none c.args.problem.now c.args.refutation.now
    ((rw c.conflicts.ensures at c.is_refutation.ensures).0 h)
