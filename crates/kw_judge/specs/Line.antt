-- The call that a line of a record speaks of.
use Rattle.kw_judge.specs.declared.judge.Line.{Line}
use Rattle.kw_judge.specs.declared.judge.Line.TheVariants.{Done, Open}
use Rattle.kw_judge.specs.Good.{Recorded, answered, unanswered}

abbrev pub recorded : Line → Recorded
recorded (Done call) = answered call.now
recorded (Open call) = unanswered call.now
