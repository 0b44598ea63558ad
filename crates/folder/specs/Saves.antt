-- What a save makes of a folder, and how far one may have come. All of it is reqlock's own rule.
use Rattle.std.specs.Prelude.{◌≡◌, ◌⊎◌, ◌≤◌, ℕ, ◌+◌, ◌-◌, false, List, [], ◌∷◌, length, map, take, Some, None}
use Rattle.folder.specs.Held.{Files, Held, IsSameBut, is_among, with_file}

-- a file that is to be written, and the bytes that it is to hold
pub record NewFileParts : Type 0 where
  pub name : List ℕ
  pub bytes : List ℕ

abbrev pub names_of : List NewFileParts → List (List ℕ)
names_of writes = map (λ w. w.name) writes

-- files, with these written in turn
abbrev pub with_all : List NewFileParts → Files → Files
with_all [] files = files
with_all (w ∷ writes) files = with_all writes (with_file files w.name (Some w.bytes))

-- files without these names
abbrev pub without_all : List (List ℕ) → Files → Files
without_all [] files = files
without_all (name ∷ names) files = without_all names (with_file files name None)

-- no name is written twice
abbrev pub AreApart : List NewFileParts → Type 0
AreApart [] = Unit {0}
AreApart (w ∷ writes) = (is_among (names_of writes) w.name ≡ false) × AreApart writes

-- after a save: the written files hold their bytes, those that go are gone, and nothing of it stands beside
abbrev pub saved : List NewFileParts → List (List ℕ) → Held → Held
saved writes going old = record {
  placed = with_all writes (without_all going old.placed);
  beside = without_all (names_of writes) old.beside;
}

-- when all was written beside the places
abbrev pub all_staged : List NewFileParts → Held → Held
all_staged writes old = record { placed = old.placed; beside = with_all writes old.beside }

-- after its first n changes: the files that go are removed in turn, then what stands beside is put into the places in turn
abbrev pub changed : List NewFileParts → List (List ℕ) → ℕ → Held → Held
changed writes going n old = record {
  placed = with_all (take (n - length going) writes) (without_all (take n going) old.placed);
  beside = without_all (names_of (take (n - length going) writes)) (with_all writes old.beside);
}

-- a save has come so far: nothing is changed in any place; or all of it stands beside, and some changes are made, the first ones
abbrev pub IsUnderWay : List NewFileParts → List (List ℕ) → Held → Held → Type 0
IsUnderWay writes going old new =
    IsSameBut (names_of writes) old new ⊎ ((n : ℕ) × (n ≤ length going + length writes) × (new ≡ changed writes going n old))
