-- What a choice is, over which `search` says when a conflict follows from others.
use Rattle.pep440.specs.Version.{VersionParts}
use Rattle.search.specs.declared.conflict.NodeChoice.{NodeChoice}
use Rattle.problems.specs.declared.node.Node.{Node}

-- a node with a version, which may be that of no release
abbrev pub ChoiceParts : Type 0
ChoiceParts = NodeChoice Node VersionParts
