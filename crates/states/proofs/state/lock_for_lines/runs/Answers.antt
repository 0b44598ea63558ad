use Rattle.std.proofs.Common.{◌≡◌, ◌∙◌, Some, None, ap, refl, sym}
use Rattle.pylock.specs.Python.{python_text}
use Rattle.states.proofs.PythonFacts.{asks-set}
use Rattle.states.proofs.state.lock_for_lines.runs.Goals as goal

pub returns-in-Some : goal.returns-in-Some
returns-in-Some c =
    let asked : c.args.entry.now.requires_python ≡ Some c.in-Some.python.text = sym c.requires_python.ensures ∙ ap python_text c.in-Some.is in
    rw (asked, c.matches.ensures, c.set.ensures)
    (asks-set c.args.environment.now c.in-Some.python c.full_version.result.now c.recall_invariant.ensures c.full_version.ensures)

pub returns-in-None : goal.returns-in-None
returns-in-None c =
    let asked : c.args.entry.now.requires_python ≡ None = sym c.requires_python.ensures ∙ ap python_text c.in-None.is in
    rw asked refl
