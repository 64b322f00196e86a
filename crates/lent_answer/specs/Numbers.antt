-- An answer in numbers. Assumes nothing.
use Rattle.std.specs.Prelude.{length, get_or}
use Rattle.model.specs.Answers.{number_of, counts_of}
use Rattle.model.specs.declared.Answer.{Answer}
use Rattle.lent_answer.specs.declared.Answered.{Answered}

-- the refusal's number or 0; how many counts are given, one or none; the count or 0
abbrev pub numbers_said : Answer → Answered
numbers_said a = record { refusal = number_of a; counted = length (counts_of a); count = get_or (counts_of a) 0 0 }
