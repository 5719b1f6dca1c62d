-- All four systems are told of a note.
use Rattle.sim_system.specs.{Meanings.four, Meanings.MayHear, Meanings.Systems, Meanings.told, declared.note.Note.Note}

-- each may be told
pub record AllMayHear (s : Systems) (note : Note) : Type 0 where
  pub first : MayHear s.ground note
  pub second : MayHear s.range note
  pub third : MayHear s.watch note
  pub fourth : MayHear s.census note

-- each was told
abbrev pub all_told : Systems → Note → Systems
all_told s note = four (told s.ground note) (told s.range note) (told s.watch note) (told s.census note)
