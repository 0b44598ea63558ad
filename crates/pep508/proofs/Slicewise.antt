-- What it says of slices that a line reads.
use Rattle.std.proofs.Common.{◌≡◌, ℕ, ◌⊎◌, ◌||◌, eqb, List, [], length, Option, Some, None, Result, Ok, Err, refl, ap, inl, inr}
use Rattle.std.proofs.lemmas.Bool.{cases_Bool, eqb-true}
use Rattle.std.proofs.lemmas.List.{nil_from_length}
use Rattle.pep440.specs.declared.specifier.Clause.{Clause}
use Rattle.markers.specs.Marker.{Tree}
use Rattle.markers.specs.Names.{name_of}
use Rattle.markers.specs.declared.fault.Cause.{Cause}
use Rattle.pep508.specs.Parts.{begins_with, content_of, ends_with, has_odd, is_marked, trim_start}
use Rattle.pep508.specs.Requirement.{RequirementParts, ◌>>=◌, asked_in, clauses_of, condition_of, extras_of, present, requirement_of, wanted_by, wanted_in}
use Rattle.pep508.specs.Slices.{Slices, asking}

-- each slice of a requirement reads
pub record AreRead (s : Slices) (wanted : RequirementParts) : Type 0 where
  pub name : name_of s.name ≡ Ok wanted.name
  pub extras : extras_of s.extras ≡ Ok wanted.extras
  pub clauses : clauses_of s.version ≡ Ok wanted.clauses
  pub marker : condition_of s.marker ≡ Ok wanted.marker

parts_read : (name : Result (List ℕ) Cause) (extras : Result (List (List ℕ)) Cause) (clauses : Result (List Clause) Cause) (marker : Result (Option Tree) Cause) (wanted : RequirementParts)
    → name >>= (λ n. extras >>= λ e. clauses >>= λ c. marker >>= λ m. Ok (record { name = n; extras = e; clauses = c; marker = m })) ≡ Ok wanted
    → (name ≡ Ok wanted.name) × (extras ≡ Ok wanted.extras) × (clauses ≡ Ok wanted.clauses) × (marker ≡ Ok wanted.marker)
parts_read (Err cause) extras clauses marker wanted reads = cc
parts_read (Ok n) (Err cause) clauses marker wanted reads = cc
parts_read (Ok n) (Ok e) (Err cause) marker wanted reads = cc
parts_read (Ok n) (Ok e) (Ok c) (Err cause) wanted reads = cc
parts_read (Ok n) (Ok e) (Ok c) (Ok m) wanted reads =
    let w : RequirementParts = record { name = n; extras = e; clauses = c; marker = m } in
    let same : w ≡ wanted = cc in
    (ap (λ (x : RequirementParts). Ok x.name) same, ap (λ (x : RequirementParts). Ok x.extras) same, ap (λ (x : RequirementParts). Ok x.clauses) same, ap (λ (x : RequirementParts). Ok x.marker) same)

pub are_read : (s : Slices) (wanted : RequirementParts) → wanted_in s ≡ Ok wanted → AreRead s wanted
are_read s wanted reads =
    let parts = parts_read (name_of s.name) (extras_of s.extras) (clauses_of s.version) (condition_of s.marker) wanted reads in
    record { name = parts.0; extras = parts.1; clauses = parts.2; marker = parts.3 }

pub wanted_from : (s : Slices) (wanted : RequirementParts) → AreRead s wanted → wanted_in s ≡ Ok wanted
wanted_from s wanted read = rw (read.name, read.extras, read.clauses, read.marker) refl

-- a name has a byte
pub no_name_reads : (name : List ℕ) → name_of [] ≡ Ok name → ⊥
no_name_reads name reads = cc

asked_so : (content : List ℕ) (read : Result RequirementParts Cause) (wanted : Option RequirementParts) → present read ≡ Ok wanted → (found : RequirementParts) × (wanted ≡ Some found) × (read ≡ Ok found)
asked_so content (Ok found) wanted reads = (found, cc, refl)
asked_so content (Err cause) wanted reads = cc

asks_content : (content : List ℕ) (wanted : Option RequirementParts) → wanted_by content ≡ Ok wanted
    → ((asking content ≡ []) × (wanted ≡ None)) ⊎ ((found : RequirementParts) × (wanted ≡ Some found) × (asked_in (asking content) ≡ Ok found))
unfolding wanted_by
asks_content content wanted reads = elim (cases_Bool (is_marked content || has_odd content)) [
  | inl odd ↦ cc (rw odd at reads)
  | inr plain ↦ elim (cases_Bool (ends_with 92 content)) [
    | inl continued ↦ cc (rw (plain, continued) at reads)
    | inr whole ↦ elim (cases_Bool (begins_with 45 (trim_start content))) [
      | inl option ↦ cc (rw (plain, whole, option) at reads)
      | inr own ↦ elim (cases_Bool (eqb (length (asking content)) 0)) [
        | inl blank ↦ inl (nil_from_length _ (eqb-true _ _ blank), cc (rw (plain, whole, own, blank) at reads))
        | inr some ↦ inr (asked_so content (asked_in (asking content)) wanted (rw (plain, whole, own, some) at reads))
      ]
    ]
  ]
]

-- a line that reads asks for nothing, or its slices read
pub asks : (line : List ℕ) (wanted : Option RequirementParts) → requirement_of line ≡ Ok wanted
    → ((asking (content_of line) ≡ []) × (wanted ≡ None)) ⊎ ((found : RequirementParts) × (wanted ≡ Some found) × (asked_in (asking (content_of line)) ≡ Ok found))
unfolding requirement_of
asks line wanted reads = asks_content (content_of line) wanted reads

-- what the content asks for, the line does
pub line_asks : (line : List ℕ) → requirement_of line ≡ wanted_by (content_of line)
unfolding requirement_of
line_asks line = refl
