-- What a resolver answers.
use Rattle.search.specs.Solutions.{HasNoSolution, IsBest}
use Rattle.problems.specs.Problem.{ProblemParts}
use Rattle.problems.specs.Rules.{rules_of}
use Rattle.problems.specs.Solutions.{version_for}
use Rattle.resolve.specs.declared.answer.Answer.{Answer}
use Rattle.resolve.specs.declared.answer.Answer.TheVariants.{Solution, NoSolution}

-- the best solution, or that there is none
abbrev pub Resolves : ProblemParts → Answer → Type 0
Resolves given (Solution versions) = IsBest (rules_of given) (version_for versions.entries)
Resolves given NoSolution = HasNoSolution (rules_of given)
