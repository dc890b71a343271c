-- All that every event keeps, in eight groups, of which the first five are `Below`. Each group may
-- use the groups before it, before and after the event.
use Rattle.kw_world.specs.Sizes.{Sizes}
use Rattle.kw_core.specs.Run.{Run}
use Rattle.kw_core.specs.Step.{Keeps}
use Rattle.kw_shape.specs.Shape.{Shape}
use Rattle.kw_puts.specs.Puts.{Puts}
use Rattle.kw_puts.specs.Lists.{Lists}
use Rattle.kw_puts.specs.Positions.{Positions}
use Rattle.kw_puts.specs.Below.{Below}
use Rattle.kw_reads.specs.Contents.{Contents}
use Rattle.kw_reads.specs.Readers.{Readers}
use Rattle.kw_reads.specs.Contents.{Contents}
use Rattle.kw_reads.specs.Replies.{Replies}

pub record Inv (z : Sizes) (r : Run) : Type 0 where
  pub shape : Shape z r
  pub history : Keeps r.history
  pub puts : Puts z r
  pub lists : Lists z r
  pub positions : Positions z r
  pub readers : Readers z r
  pub contents : Contents z r
  pub replies : Replies r

-- what holds below the readers, the contents and the replies
abbrev pub lower : {z : Sizes} {r : Run} → Inv z r → Below z r
lower i = record { shape = i.shape; history = i.history; puts = i.puts; lists = i.lists; positions = i.positions }
