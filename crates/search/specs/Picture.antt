-- When the numbers of a table stand for names, nodes, versions and requirements of other rules.
use Rattle.std.specs.Prelude.{ℕ, List, ◌≡◌, ◌<◌, length, map}
use Rattle.std.specs.List.{Contains}
use Rattle.std.specs.Ordering.{nat_cmp}
use Rattle.search.specs.declared.parts.TableChoice.{TableChoice}
use Rattle.search.specs.Rules.{Rules}
use Rattle.search.specs.Solutions.{Pin}
use Rattle.search.specs.Table.{TableParts, requirement_at, name_of, required_nodes, admits_at, wants_at, candidates_of, pin_of}

-- what each number stands for; a version by the number of its name and its place
pub record Picture (N X V R : Type 0) : Type 0 where
  pub name : ℕ → N
  pub node : ℕ → X
  pub version : ℕ → ℕ → V
  pub requirement : ℕ → R

-- the name that a requirement of a table is on
abbrev pub name_required : TableParts → ℕ → ℕ
name_required t r = name_of t (requirement_at t r).node

-- What the table says of its numbers, the rules say of what they stand for. The table's names are in their order, and a name's candidates are told apart by their places.
pub record IsPicture {N X V R : Type 0} (t : TableParts) (picture : Picture N X V R) (rules : Rules N X V R) : Type 0 where
  pub lines : rules.lines ≡ map picture.requirement t.lines
  pub required : (r : ℕ) → r < length t.requirements → rules.name (picture.requirement r) ≡ picture.name (name_required t r)
  pub nodes : (r : ℕ) → r < length t.requirements → rules.nodes (picture.requirement r) ≡ map picture.node (required_nodes (requirement_at t r))
  pub on : (node : ℕ) → node < length t.nodes → rules.on (picture.node node) ≡ picture.name (name_of t node)
  pub admits : (r place : ℕ) → r < length t.requirements → Contains (candidates_of t (name_required t r)) place → rules.admits (picture.requirement r) (picture.version (name_required t r) place) ≡ admits_at t r place
  pub wants : (node place : ℕ) → node < length t.nodes → Contains (candidates_of t (name_of t node)) place → rules.wants (picture.node node) (picture.version (name_of t node) place) ≡ map picture.requirement (wants_at t node place)
  pub candidates : (n : ℕ) → n < length t.candidates → rules.candidates (picture.name n) ≡ map (picture.version n) (candidates_of t n)
  pub order : (n m : ℕ) → n < length t.candidates → m < length t.candidates → rules.compare (picture.name n) (picture.name m) ≡ nat_cmp n m
  pub apart : (n p q : ℕ) → Contains (candidates_of t n) p → Contains (candidates_of t n) q → picture.version n p ≡ picture.version n q → p ≡ q

abbrev pub pin_pictured : {N X V R : Type 0} → Picture N X V R → Pin ℕ ℕ → Pin N V
pin_pictured picture p = record { name = picture.name p.name; version = picture.version p.name p.version }

-- what choices stand for
abbrev pub pictured : {N X V R : Type 0} → Picture N X V R → List TableChoice → List (Pin N V)
pictured picture choices = map (pin_pictured picture) (map pin_of choices)
