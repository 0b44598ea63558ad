use Rattle.std.proofs.Common.{refl}
use Rattle.pep440.specs.Tied.Sets.{clause_of}
use Rattle.pep440.proofs.PieceAnswersOnce.{piece-answers, piece-read}
use Rattle.pep440.proofs.laws.a_piece_has_one_answer.Goals as goal

pub returns-clause-answers : goal.returns-clause-answers
returns-clause-answers c place piece = piece-answers place piece (clause_of place piece) refl

pub returns-clause-one : goal.returns-clause-one
returns-clause-one c = piece-read
