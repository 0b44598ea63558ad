use Rattle.pep440.proofs.Trims.{parts-spell}
use Rattle.pep440.proofs.VersionsReadAsSpelled.{fitting-ok, spells-version, spells-large, spells-nothing}
use Rattle.pep440.specs.Tied.Reading.{parts_of}
use Rattle.pep440.proofs.laws.a_text_reads_as_what_it_spells.Goals as goal

pub returns-clause-read : goal.returns-clause-read
returns-clause-read c text v h = let p = fitting-ok (parts_of text) v h in (parts-spell text v p.0, p.1)

pub returns-clause-found : goal.returns-clause-found
returns-clause-found c = spells-version

pub returns-clause-large : goal.returns-clause-large
returns-clause-large c = spells-large

pub returns-clause-bad : goal.returns-clause-bad
returns-clause-bad c = spells-nothing
