use Rattle.set_refutations.proofs.checker.check_sets.Goals as goal

pub returns-clause-none : goal.returns-clause-none
returns-clause-none c = λ h. c.an_accepted_set_refutation_leaves_no_solution.ensures.none c.args.problem.now c.args.refutation.now
    ((rw c.conflicts.ensures at c.is_refutation.ensures).0 h)
