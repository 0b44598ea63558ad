-- What the steps of a save make of what is held.
use Rattle.std.proofs.Common.{◌≡◌, ◌≤◌, ◌+◌, ◌-◌, ℕ, zero, suc, Bool, true, false, List, [], ◌∷◌, Option, Some, None, IsSome, length, take, if◌then◌else◌, refl, sym, ap, ◌∙◌, subst, inl, inr, arith, take_all}
use Rattle.std.specs.Str.{bytes_eq}
use Rattle.folder.specs.Held.{Files, Held, IsSameBut, in_turn, is_among, removed, renamed, staged, with_file}
use Rattle.folder.specs.Saves.{AreApart, IsUnderWay, NewFileParts, changed, names_of, saved, with_all, without_all}
use Rattle.folder.specs.Tied.Steps.{AreStaged, IsOnTheWayOrBeside, rename_file, stage_file}
use Rattle.folder.proofs.Names.{apart_first, not_among_first, or_left_false, or_right_false, other_name, same_but-both, with_all-miss, with_this, without-written}

pub staged-is : (files : List NewFileParts) (h : Held) → in_turn stage_file files h ≡ record { placed = h.placed; beside = with_all files h.beside }
staged-is [] h = refl
staged-is (f ∷ files) h = staged-is files (staged f.name f.bytes h)

pub removed-is : (names : List (List ℕ)) (h : Held) → in_turn removed names h ≡ record { placed = without_all names h.placed; beside = h.beside }
removed-is [] h = refl
removed-is (n ∷ names) h = removed-is names (removed n h)

-- staging the first of some files changes nothing but beside their places
pub staged-beside : (files : List NewFileParts) (n : ℕ) (h : Held) → IsSameBut (names_of files) h (in_turn stage_file (take n files) h)
staged-beside files n h = subst (λ (k : Held). IsSameBut (names_of files) h k) (sym (staged-is (take n files) h)) (record {
  placed = refl;
  beside = λ x other. with_all-miss (take n files) h.beside x (not_among_first files n x other);
})

-- ---- renames

-- each of these files has its bytes
abbrev pub HaveBytes : List NewFileParts → Files → Type 0
HaveBytes [] b = Unit {0}
HaveBytes (f ∷ files) b = (b f.name ≡ Some f.bytes) × HaveBytes files b

pub have-first : (files : List NewFileParts) (n : ℕ) (b : Files) → HaveBytes files b → HaveBytes (take n files) b
have-first [] zero b have = tt
have-first [] (suc n) b have = tt
have-first (f ∷ files) zero b have = tt
have-first (f ∷ files) (suc n) b have = (have.0, have-first files n b have.1)

pub have-written : (files : List NewFileParts) (b : Files) → AreApart files → HaveBytes files (with_all files b)
have-written [] b apart = tt
have-written (f ∷ files) b apart =
    (with_all-miss files (with_file b f.name (Some f.bytes)) f.name apart.0 ∙ with_this b f.name (Some f.bytes), have-written files (with_file b f.name (Some f.bytes)) apart.1)

have-still : (name : List ℕ) (files : List NewFileParts) (b : Files) → is_among (names_of files) name ≡ false → HaveBytes files b → HaveBytes files (with_file b name None)
have-still name [] b other have = tt
have-still name (f ∷ files) b other have = (
  ap (λ (t : Bool). if t then None else b f.name) (other_name f.name name (or_left_false (bytes_eq f.name name) (is_among (names_of files) name) other)) ∙ have.0,
  have-still name files b (or_right_false (bytes_eq f.name name) (is_among (names_of files) name) other) have.1,
)

some_known : (o : Option (List ℕ)) (bytes : List ℕ) → o ≡ Some bytes → IsSome o
some_known None bytes is = absurd (cc is)
some_known (Some b) bytes is = refl

pub are-staged : (files : List NewFileParts) (h : Held) → AreApart files → HaveBytes files h.beside → AreStaged files h
are-staged [] h apart have = tt
are-staged (f ∷ files) h apart have = (some_known (h.beside f.name) f.bytes have.0, are-staged files (renamed f.name h) apart.1 (have-still f.name files h.beside apart.0 have.1))

pub renamed-is : (files : List NewFileParts) (h : Held) → AreApart files → HaveBytes files h.beside → in_turn rename_file files h ≡ record { placed = with_all files h.placed; beside = without_all (names_of files) h.beside }
renamed-is [] h apart have = refl
renamed-is (f ∷ files) h apart have =
    renamed-is files (renamed f.name h) apart.1 (have-still f.name files h.beside apart.0 have.1)
    ∙ ap (λ (o : Option (List ℕ)). record { placed = with_all files (with_file h.placed f.name o); beside = without_all (names_of files) (with_file h.beside f.name None) }) have.0

-- ---- the whole way

module _ (files : List NewFileParts) (going : List (List ℕ)) (apart : AreApart files) where
  abbrev pub all_staged : Held → Held
  all_staged h = record { placed = h.placed; beside = with_all files h.beside }

  abbrev pub all_removed : Held → Held
  all_removed h = record { placed = without_all going h.placed; beside = with_all files h.beside }

  take_none : (n : ℕ) → n ≤ length going → take (n - length going) files ≡ []
  take_none n le = let none : n - length going ≡ 0 = omega arith in ap (λ (k : ℕ). take k files) none

  pub removed-changed : (h : Held) (n : ℕ) → n ≤ length going → in_turn removed (take n going) (in_turn stage_file files h) ≡ changed files going n h
  removed-changed h n le =
      ap (λ (k : Held). in_turn removed (take n going) k) (staged-is files h) ∙ removed-is (take n going) (all_staged h)
      ∙ ap (λ (fs : List NewFileParts). record { placed = with_all fs (without_all (take n going) h.placed); beside = without_all (names_of fs) (with_all files h.beside) }) (sym (take_none n le))

  pub removed-all : (h : Held) → in_turn removed going (in_turn stage_file files h) ≡ all_removed h
  removed-all h = ap (λ (k : Held). in_turn removed going k) (staged-is files h) ∙ removed-is going (all_staged h)

  pub have-all : (h : Held) → HaveBytes files (all_removed h).beside
  have-all h = have-written files h.beside apart

  pub renamed-changed : (h : Held) (n : ℕ) → in_turn rename_file (take n files) (in_turn removed going (in_turn stage_file files h)) ≡ changed files going (length going + n) h
  renamed-changed h n =
      let count : length going + n - length going ≡ n = omega arith in
      let all : take (length going + n) going ≡ going = take_all (length going + n) going (omega arith) in
      ap (λ (k : Held). in_turn rename_file (take n files) k) (removed-all h)
      ∙ renamed-is (take n files) (all_removed h) (apart_first files n apart) (have-first files n (all_removed h).beside (have-all h))
      ∙ (λ i. record {
        placed = with_all (take (sym count i) files) (without_all (sym all i) h.placed);
        beside = without_all (names_of (take (sym count i) files)) (with_all files h.beside);
      })

  pub renamed-all : (h : Held) → in_turn rename_file files (in_turn removed going (in_turn stage_file files h)) ≡ saved files going h
  renamed-all h =
      ap (λ (k : Held). in_turn rename_file files k) (removed-all h)
      ∙ renamed-is files (all_removed h) apart (have-all h)
      ∙ ap (λ (b : Files). record { placed = with_all files (without_all going h.placed); beside = b }) (without-written files h.beside)

  pub staged-ready : (h : Held) → AreStaged files (in_turn removed going (in_turn stage_file files h))
  staged-ready h = subst (λ (k : Held). AreStaged files k) (sym (removed-all h)) (are-staged files (all_removed h) apart (have-all h))

  -- a save that comes to its removals is under way
  pub way-removed : (h k m : Held) → k ≡ in_turn stage_file files h → IsOnTheWayOrBeside files true removed going k m → IsUnderWay files going h m
  way-removed h k m is (inl way) = inr (way.0, omega (arith, way.1), way.2 ∙ ap (λ (x : Held). in_turn removed (take way.0 going) x) is ∙ removed-changed h way.0 way.1)
  way-removed h k m is (inr beside) = inl (same_but-both (names_of files) h k m (subst (λ (x : Held). IsSameBut (names_of files) h x) (sym is) (staged_whole h)) beside.1)
    where
      staged_whole : (h : Held) → IsSameBut (names_of files) h (in_turn stage_file files h)
      staged_whole h = subst (λ (fs : List NewFileParts). IsSameBut (names_of files) h (in_turn stage_file fs h)) (take_all (length files) files (omega arith)) (staged-beside files (length files) h)

  nothing_goes : (untouched : Bool) → (untouched ≡ true → going ≡ []) → untouched ≡ true → (h : Held) → in_turn removed going (in_turn stage_file files h) ≡ in_turn stage_file files h
  nothing_goes untouched none is h = ap (λ (names : List (List ℕ)). in_turn removed names (in_turn stage_file files h)) (none is)

  -- and so is one that comes to its renames
  pub way-renamed : (untouched : Bool) → (untouched ≡ true → going ≡ []) → (h k m : Held) → k ≡ in_turn removed going (in_turn stage_file files h) → IsOnTheWayOrBeside files untouched rename_file files k m → IsUnderWay files going h m
  way-renamed untouched none h k m is (inl way) = inr (
    length going + way.0,
    omega (arith, way.1),
    way.2 ∙ ap (λ (x : Held). in_turn rename_file (take way.0 files) x) is ∙ renamed-changed h way.0,
  )
  way-renamed untouched none h k m is (inr beside) = inl (same_but-both (names_of files) h k m (subst (λ (x : Held). IsSameBut (names_of files) h x) (sym (is ∙ nothing_goes untouched none beside.0 h)) (staged_whole h)) beside.1)
    where
      staged_whole : (h : Held) → IsSameBut (names_of files) h (in_turn stage_file files h)
      staged_whole h = subst (λ (fs : List NewFileParts). IsSameBut (names_of files) h (in_turn stage_file fs h)) (take_all (length files) files (omega arith)) (staged-beside files (length files) h)
