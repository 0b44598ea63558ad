-- Files that open beside one journal stand for one history.
use Rattle.std.proofs.Common.{◌≡◌, ℕ, List, [], ◌∷◌, ◌++◌, Contains, Some, None, Ok, refl, sym, ap, subst, ◌∙◌}
use Rattle.std.specs.List.{AllByRecursion}
use Rattle.std.proofs.lemmas.List.Elements.{Contains-append_left, Contains-append_right}
use Rattle.std.proofs.lemmas.Map.Views.{Contains-from_lookup}
use Rattle.std.proofs.lemmas.Slice.Eq.{bytes_eq-Decides}
use Rattle.lists.proofs.Members.{Contains-here, Contains-map_of, Contains-there}
use Rattle.sha2.specs.Sha256.{sha256}
use Rattle.journal.specs.Changes.{HistoryParts}
use Rattle.journal.specs.Laws.{FilesStandForOneHistory}
use Rattle.journal.specs.Locks.{LockTexts, lock_at, odd_lock}
use Rattle.journal.specs.Opens.{Opens}
use Rattle.journal_format.specs.declared.header.Header.{Header}
use Rattle.journal_format.specs.declared.header.HeaderTarget.{HeaderTarget}
use Rattle.files.specs.JournalLocks.{AreOneByName}
use Rattle.files.proofs.KeptLocks.{HasItsLock, all-kept}
use Rattle.files.proofs.OtherLocks.{AreSameLocks, AreTold, HasHeader, has-header, one-header, opens-moved}
use Rattle.power_cuts.specs.OneHistory.{AreToldApart, texts_of}

-- ---- files that a header tells of

-- lock files of one target that have its digest are the same
abbrev pub AreOneByDigest : LockTexts → LockTexts → Type 0
AreOneByDigest locks more =
    (target : HeaderTarget) (one : HasItsLock locks target) (other : HasItsLock more target) → one.text ≡ other.text

pub same-locks : (locks more : LockTexts) (targets : List HeaderTarget) → AreOneByDigest locks more → AllByRecursion (HasItsLock locks) targets → AllByRecursion (HasItsLock more) targets
    → AreSameLocks locks more targets
same-locks locks more [] one kept kept_of_more = tt
same-locks locks more (t ∷ targets) one kept kept_of_more =
    (kept.0.there ∙ ap (λ (text : List ℕ). Some text) (one t kept.0 kept_of_more.0) ∙ sym kept_of_more.0.there, same-locks locks more targets one kept.1 kept_of_more.1)

-- files that open beside one journal, where its digests tell them: they are the same, so far as its header tells of them
pub record AreSameFiles (header : Header) (requirements others : List ℕ) (locks more : LockTexts) : Type 0 where
  pub same : requirements ≡ others
  pub none : odd_lock header locks ≡ None
  pub none_of_more : odd_lock header more ≡ None
  pub locked : AreSameLocks locks more header.targets

pub same-files : (requirements others : List ℕ) (locks more : LockTexts) (journal : List ℕ) (one another : HistoryParts) → (sha256 requirements ≡ sha256 others → requirements ≡ others) → AreOneByDigest locks more
    → HasHeader requirements locks journal one → (b : HasHeader others more journal another) → AreSameFiles b.begin.0 requirements others locks more
same-files requirements others locks more journal one another texts by_digest a b =
    let header = b.begin.0 in
    let told : AreTold header requirements locks = subst (λ (x : Header × List ℕ). AreTold x.0 requirements locks) (one-header journal a.begin b.begin a.begins b.begins) a.told in
    record {
      same = texts (sym told.digest ∙ b.told.digest);
      none = told.none;
      none_of_more = b.told.none;
      locked = same-locks locks more header.targets by_digest (all-kept header locks told.none) (all-kept header more b.told.none);
    }

-- ---- files that are told apart

-- the requirements file and the lock files are among these files
pub record AreWithin (all : List (List ℕ)) (requirements : List ℕ) (locks : LockTexts) : Type 0 where
  pub first : Contains all requirements
  pub others : (text : List ℕ) → Contains (texts_of locks) text → Contains all text

text-there : (locks : LockTexts) (name text : List ℕ) → lock_at locks name ≡ Some text → Contains (texts_of locks) text
text-there locks name text there = Contains-map_of (λ (lock : List ℕ × List ℕ). lock.1) locks (name, text) (Contains-from_lookup (λ x y. (bytes_eq-Decides x y).0) name text locks there)

pub digests-tell : (all : List (List ℕ)) (requirements others : List ℕ) (locks more : LockTexts) → AreToldApart all → AreWithin all requirements locks → AreWithin all others more → AreOneByDigest locks more
digests-tell all requirements others locks more apart a b target x y =
    apart x.text y.text (a.others x.text (text-there locks target.name x.text x.there)) (b.others y.text (text-there more target.name y.text y.there)) (x.digest ∙ sym y.digest)

module _ (law : FilesStandForOneHistory) where
  -- files that open beside one journal, and are the same where their digests are, stand for one history
  same-history : (requirements others : List ℕ) (locks more : LockTexts) (journal : List ℕ) (one another : HistoryParts) → (sha256 requirements ≡ sha256 others → requirements ≡ others) → AreOneByDigest locks more
      → Opens requirements locks journal (Ok one) → Opens others more journal (Ok another) → one ≡ another
  same-history requirements others locks more journal one another texts by_digest opens opens_too =
      let a = has-header requirements locks journal one opens in
      let same : requirements ≡ others = (same-files requirements others locks more journal one another texts by_digest a (has-header others more journal another opens_too)).same in
      let b = has-header requirements more journal another (subst (λ (r : List ℕ). Opens r more journal (Ok another)) (sym same) opens_too) in
      let are = same-files requirements requirements locks more journal one another (λ digests. refl) by_digest a b in
      let answers : Ok one ≡ Ok another = law requirements locks journal (Ok one) (Ok another) opens (opens-moved requirements locks more journal another b are.none are.locked) in
      cc

  -- as of one folder
  pub folder-history : (requirements journal : List ℕ) (locks more : LockTexts) (one another : HistoryParts) → AreOneByName locks more → Opens requirements locks journal (Ok one) → Opens requirements more journal (Ok another) → one ≡ another
  folder-history requirements journal locks more one another by_name =
      same-history requirements requirements locks more journal one another (λ same. refl) (λ target x y. by_name target.name x.text y.text x.there y.there)

  -- as of files that are told apart
  pub history-within : (all : List (List ℕ)) (requirements others : List ℕ) (locks more : LockTexts) (journal : List ℕ) (one another : HistoryParts) → AreToldApart all → AreWithin all requirements locks → AreWithin all others more
      → Opens requirements locks journal (Ok one) → Opens others more journal (Ok another) → one ≡ another
  history-within all requirements others locks more journal one another apart a b =
      same-history requirements others locks more journal one another (apart requirements others a.first b.first) (digests-tell all requirements others locks more apart a b)

  pub journal-history : (requirements others : List ℕ) (locks more : LockTexts) (journal : List ℕ) (one another : HistoryParts) → AreToldApart (requirements ∷ others ∷ texts_of locks ++ texts_of more)
      → Opens requirements locks journal (Ok one) → Opens others more journal (Ok another) → one ≡ another
  journal-history requirements others locks more journal one another apart =
      history-within (requirements ∷ others ∷ all) requirements others locks more journal one another apart
      (record { first = Contains-here requirements (others ∷ all); others = λ text there. behind text (Contains-append_left (texts_of locks) (texts_of more) text there) })
      (record {
        first = Contains-there requirements (others ∷ all) others (Contains-here others all);
        others = λ text there. behind text (Contains-append_right (texts_of locks) (texts_of more) text there);
      })
    where
      all : List (List ℕ)
      all = texts_of locks ++ texts_of more

      behind : (text : List ℕ) → Contains all text → Contains (requirements ∷ others ∷ all) text
      behind text there = Contains-there requirements (others ∷ all) text (Contains-there others all text there)
