use Rattle.std.proofs.Common.{◌≡◌, ◌∙◌, true, Some, ap, subst, sym}
use Rattle.std.specs.Option.{option_copied}
use Rattle.markers.specs.Comparisons.{version_read}
use Rattle.markers.specs.Environment.{is_versioned, text_of}
use Rattle.pep440.specs.Matching.{clause_matches, operator_matches}
use Rattle.pep440.specs.Version.{VersionParts}
use Rattle.pep440.specs.declared.specifier.Clause.{Clause}
use Rattle.exports.specs.Tied.Implication.{opposite_of}
use Rattle.exports.specs.Tied.Kept.{Settles}
use Rattle.exports.proofs.KeptConditions.{settles-itself, settles-opposite}
use Rattle.exports.proofs.kept_conditions.settling_clause.Goals as goal

pub returns-then-matches : goal.returns-then-matches
returns-then-matches c =
    let versioned : is_versioned c.args.variable ≡ true = sym c.is_versioned.ensures ∙ c.if-not-is_versioned.false in
    let read : version_read (text_of c.args.environment.now c.args.variable) ≡ Some c.in-Some.version.now = sym c.version.ensures ∙ ap option_copied c.in-Some.is in
    let matched : clause_matches c.args.clause.now c.in-Some.version.now ≡ true = sym c.matches.ensures ∙ c.if-matches.true in
    let same : c.in_ok-clone.field-0 ≡ c.args.clause.now = c.in_ok-clone.ensures.cases in
    subst (λ (settling : Clause). Settles c.args.environment.now c.args.variable c.args.clause.now settling) (sym same)
    (settles-itself c.args.environment.now c.args.variable c.args.clause.now c.in-Some.version.now (versioned, c.recall_invariant.ensures, c.requires.taken) read matched)

pub returns-then-matches-2 : goal.returns-then-matches-2
returns-then-matches-2 c =
    let versioned : is_versioned c.args.variable ≡ true = sym c.is_versioned.ensures ∙ c.if-not-is_versioned.false in
    let read : version_read (text_of c.args.environment.now c.args.variable) ≡ Some c.in-Some.version.now = sym c.version.ensures ∙ ap option_copied c.in-Some.is in
    let same : c.in_ok-version_asked.version_asked ≡ c.args.clause.now.version = c.in_ok-version_asked.ensures.cases in
    let turned : opposite_of c.args.clause.now.operator ≡ Some c.in-Some-opposite.operator = sym c.opposite.ensures ∙ c.in-Some-opposite.is in
    let asked : operator_matches c.in-Some-opposite.operator c.in_ok-version_asked.version_asked c.in-Some.version.now ≡ true = sym c.matches-2.ensures ∙ c.if-matches-2.true in
    let matched : operator_matches c.in-Some-opposite.operator c.args.clause.now.version c.in-Some.version.now ≡ true =
    subst (λ (version : VersionParts). operator_matches c.in-Some-opposite.operator version c.in-Some.version.now ≡ true) same asked in
    subst (λ (version : VersionParts). Settles c.args.environment.now c.args.variable c.args.clause.now (record { operator = c.in-Some-opposite.operator; version = version })) (sym same)
    (settles-opposite c.args.environment.now c.args.variable c.args.clause.now c.in-Some-opposite.operator c.in-Some.version.now (versioned, c.recall_invariant.ensures, c.requires.taken) read turned matched)
