-- `is_whole_step` is `is_whole_step`.
use Rattle.std.proofs.Common.{sym, ◌∙◌}
use Rattle.profile.proofs.Reading.{no_time, no_size, some_size}
use Rattle.profile.proofs.wholes.is_whole_step.Goals as goal

pub returns-then-not-is_whole_time : goal.returns-then-not-is_whole_time
returns-then-not-is_whole_time c = no_time _ (sym c.is_whole_time.ensures ∙ c.if-not-is_whole_time.true)

pub size_of-size-requires : goal.size_of-size-requires
size_of-size-requires c = sym c.is_whole_time.ensures ∙ c.if-not-is_whole_time.false

pub returns-then-size-lt1 : goal.returns-then-size-lt1
returns-then-size-lt1 c = no_size _ _ c.size_of-size.ensures.0 c.if-size-lt1.true

pub returns : goal.returns
returns c =
    some_size _ _ (sym c.is_whole_time.ensures ∙ c.if-not-is_whole_time.false) c.size_of-size.ensures.0 c.if-size-lt1.false
