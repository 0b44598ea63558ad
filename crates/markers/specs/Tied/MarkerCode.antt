-- A tree as the list of steps that build it, by which proofs tell trees apart.
-- Tied to `Tree` by `built-steps_of`: the steps build the tree again; need not be read.
use Rattle.std.specs.Prelude.{◌≡◌, ◌⊎◌, Bool, true, false, List, [], ◌∷◌, ◌++◌, Option, Some, None, refl, if◌then◌else◌}
use Rattle.std.specs.Coded.{Coded, code_by, coded⊎, coded_bool, coded_list, coded_option}
use Rattle.std.proofs.Common.{sym, ap, ◌∙◌, append_assoc, append-nil, inl, inr}
use Rattle.markers.specs.contracts.marker_atom.Atom as atoms
use Rattle.markers.specs.MarkerTree.{Tree, atom, all_of, any_of, Trees, no_trees, tree}
use Rattle.markers.specs.declared.marker_atom.Atom.{Atom}

-- put an atom in front, begin to collect members, or join those collected: by `and` where true
abbrev pub Step : Type 0
Step = Atom ⊎ Option Bool

abbrev mutual
  pub steps_of : Tree → List Step
  steps_of (atom a) = inl a ∷ []
  steps_of (all_of ts) = inr None ∷ (member_steps ts ++ inr (Some true) ∷ [])
  steps_of (any_of ts) = inr None ∷ (member_steps ts ++ inr (Some false) ∷ [])

  pub member_steps : Trees → List Step
  member_steps no_trees = []
  member_steps (tree t ts) = member_steps ts ++ steps_of t

-- a tree put before the members that are collected last
abbrev pub put_first : Tree → List Trees → List Trees
put_first t [] = []
put_first t (ts ∷ more) = tree t ts ∷ more

abbrev pub join : Bool → List Trees → List Trees
join all [] = []
join all (ts ∷ more) = put_first (if all then all_of ts else any_of ts) more

abbrev pub build : List Step → List Trees → List Trees
build [] begun = begun
build (inl a ∷ rest) begun = build rest (put_first (atom a) begun)
build (inr None ∷ rest) begun = build rest (no_trees ∷ begun)
build (inr (Some all) ∷ rest) begun = build rest (join all begun)

abbrev pub first_tree : Trees → Tree
first_tree no_trees = any_of no_trees
first_tree (tree t ts) = t

abbrev pub first_built : List Trees → Tree
first_built [] = any_of no_trees
first_built (ts ∷ more) = first_tree ts

abbrev pub built : List Step → Tree
built steps = first_built (build steps (no_trees ∷ []))

-- members before others
abbrev pub before : Trees → Trees → Trees
before no_trees us = us
before (tree t ts) us = tree t (before ts us)

before-none : (ts : Trees) → before ts no_trees ≡ ts
before-none no_trees = refl
before-none (tree t ts) = ap (tree t) (before-none ts)

mutual
  build-steps_of : (t : Tree) (rest : List Step) (us : Trees) (more : List Trees) → build (steps_of t ++ rest) (us ∷ more) ≡ build rest (tree t us ∷ more)
  build-steps_of (atom a) rest us more = refl
  build-steps_of (all_of ts) rest us more =
      ap (λ (s : List Step). build s (no_trees ∷ us ∷ more)) (append_assoc (member_steps ts) (inr (Some true) ∷ []) rest)
      ∙ build-member_steps ts (inr (Some true) ∷ rest) no_trees (us ∷ more)
      ∙ ap (λ (vs : Trees). build rest (tree (all_of vs) us ∷ more)) (before-none ts)
  build-steps_of (any_of ts) rest us more =
      ap (λ (s : List Step). build s (no_trees ∷ us ∷ more)) (append_assoc (member_steps ts) (inr (Some false) ∷ []) rest)
      ∙ build-member_steps ts (inr (Some false) ∷ rest) no_trees (us ∷ more)
      ∙ ap (λ (vs : Trees). build rest (tree (any_of vs) us ∷ more)) (before-none ts)

  build-member_steps : (ts : Trees) (rest : List Step) (us : Trees) (more : List Trees) → build (member_steps ts ++ rest) (us ∷ more) ≡ build rest (before ts us ∷ more)
  build-member_steps no_trees rest us more = refl
  build-member_steps (tree t ts) rest us more =
      ap (λ (s : List Step). build s (us ∷ more)) (append_assoc (member_steps ts) (steps_of t) rest)
      ∙ build-member_steps ts (steps_of t ++ rest) us more
      ∙ build-steps_of t rest (before ts us) more

pub built-steps_of : (t : Tree) → built (steps_of t) ≡ t
built-steps_of t =
    ap (λ (s : List Step). first_built (build s (no_trees ∷ []))) (sym (append-nil (steps_of t)))
    ∙ ap first_built (build-steps_of t [] no_trees [])

abbrev pub tree_code : Coded Tree
tree_code = code_by (List Step) (coded_list (coded⊎ atoms.the_row.coded (coded_option coded_bool))) steps_of built built-steps_of
