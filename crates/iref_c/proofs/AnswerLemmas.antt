-- What a call answers where a text is not in its rule.
use Rattle.iref_c.specs.Answers.{Answers, ReportsInvalid}

-- a call that ends with that status, and leaves all as it was
pub invalid_answer : {valid other_valid done unchanged : Type 0} {status : _} → ReportsInvalid valid other_valid status → unchanged → Answers valid other_valid done unchanged status
invalid_answer stored same = record {
  valid_done = λ valid other_valid. absurd (stored.valid_done valid other_valid);
  first_invalid = λ invalid. ((stored.first_invalid invalid).0, same);
  second_invalid = λ valid invalid. ((stored.second_invalid valid invalid).0, same);
}
