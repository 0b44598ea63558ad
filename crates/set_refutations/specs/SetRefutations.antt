-- What the set conflicts of a problem are made of, over which `search` says when one follows from others.
use Rattle.pep440.specs.Version.{VersionParts}
use Rattle.search.specs.declared.term.Term.{Term}
use Rattle.problems.specs.declared.node.Node.{Node}

-- a node with some versions, which may be those of no release
abbrev pub TermParts : Type 0
TermParts = Term Node VersionParts
