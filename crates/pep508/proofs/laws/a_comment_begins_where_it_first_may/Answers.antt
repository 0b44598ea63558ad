use Rattle.pep508.proofs.CommentPlace.{is_place, one_place}
use Rattle.pep508.proofs.laws.a_comment_begins_where_it_first_may.Goals as goal

pub returns-clause-is : goal.returns-clause-is
returns-clause-is c = is_place

pub returns-clause-one : goal.returns-clause-one
returns-clause-one c = one_place
