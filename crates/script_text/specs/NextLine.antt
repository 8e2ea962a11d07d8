-- A script's next line, out of a source that is read on only where no whole line is left.
use Rattle.std.specs.Prelude.{◌≡◌, ◌++◌, ℕ, ◌+◌, ◌<◌, ◌≤◌, ◌⊎◌, Bool, true, false, List, [], ◌∷◌, length, Contains, Option, Result, IfOk, OnOk, IsErrOf, MatchOption, ◌↔◌}
use Rattle.std.specs.Io.KnownBytes.{Consumes, IsAtEnd}
use Rattle.kc_base.specs.declared.transfer.InputError.{InputError}
use Rattle.kc_base.specs.declared.transfer.InputError.TheVariants.{Failed, TooLong}
use Rattle.script_text.specs.LineCutter.{CutterState, IsPending}
use Rattle.script_text.specs.Script.{script_of}
use Rattle.script_text.specs.Whole.{whole_script}
use Rattle.script_text.specs.declared.commands.Line.{Line}

-- What a reader of lines is seen as: what its cutter keeps, how many bytes may still come, and whether the source has
-- ended.
pub record Place : Type 0 where
  pub kept : CutterState
  pub room : ℕ
  pub ended : Bool

-- Of these bytes no line was made yet; once the source has ended none of them is a line feed, and none is left.
pub record StandsAt (pending : List ℕ) (place : Place) (left : Option (List ℕ)) : Type 0 where
  pub pending_is : IsPending pending place.kept
  pub no_feed : place.ended ≡ true → Contains pending 10 → ⊥
  pub at_end : place.ended ≡ true → IsAtEnd left

-- What was read: nothing, or pieces of which each but the last left no whole line.
pub record ReadsOn (pending : List ℕ) (left left' : Option (List ℕ)) : Type 0 where
  pub before : List ℕ
  pub piece : List ℕ
  pub read : Consumes left left' (before ++ piece)
  pub one_piece : length piece ≤ 65536
  pub needed : (before ++ piece ≡ []) ⊎ (Contains (pending ++ before) 10 → ⊥)

-- Whatever comes after these bytes, their first line says this, and the rest follows it; at the end nothing comes. The
-- line is whole where it isn't the end.
pub record IsNext (bytes : List ℕ) (ended : Bool) (said : Line) (rest : List ℕ) : Type 0 where
  pub script : (more : List ℕ) → (ended ≡ true → more ≡ []) → script_of (bytes ++ more) ≡ said ∷ script_of (rest ++ more)
  pub whole : ended ≡ false → (more : List ℕ) → whole_script (bytes ++ more) ≡ said ∷ whole_script (rest ++ more)
  pub shorter : length rest < length bytes

-- What one read came to: a piece, or none where the source failed or has ended.
pub record ReadsPiece (old new : Place) (left left' : Option (List ℕ)) (result : Result (Unit {0}) InputError) : Type 0 where
  pub piece : List ℕ
  pub read : Consumes left left' piece
  pub one_piece : length piece ≤ 65536
  pub kept : OnOk result (new.kept ≡ record { begun = old.kept.begun; unseen = old.kept.unseen ++ piece })
  pub room : OnOk result (new.room + length piece ≡ old.room)
  pub at_end : OnOk result (new.ended ≡ true → (piece ≡ []) × IsAtEnd left')
  pub failed : IsErrOf result Failed → piece ≡ []
  pub too_long : IsErrOf result TooLong ↔ (old.room < length piece)

-- What came of the search for the next line, where these bytes were pending.
pub record FindsNext (pending : List ℕ) (old new : Place) (left left' : Option (List ℕ)) (result : Result (Option Line) InputError) : Type 0 where
  pub reads : ReadsOn pending left left'
  pub room : OnOk result (new.room + length (reads.before ++ reads.piece) ≡ old.room)
  pub line : IfOk result (λ answer. MatchOption answer
      ((pending ++ (reads.before ++ reads.piece) ≡ []) × (new.ended ≡ true) × StandsAt [] new left')
      (λ said. (rest : List ℕ) × IsNext (pending ++ (reads.before ++ reads.piece)) new.ended said rest × StandsAt rest new left'))
  -- once the source has ended nothing is read
  pub still : old.ended ≡ true → (reads.before ++ reads.piece ≡ []) × (new.ended ≡ true) × (left' ≡ left)
  -- where the source failed each whole line was made before
  pub failed : IsErrOf result Failed → (old.ended ≡ false) × (Contains (pending ++ (reads.before ++ reads.piece)) 10 → ⊥)
  -- the last piece was too much
  pub too_long : IsErrOf result TooLong ↔ (old.room < length (reads.before ++ reads.piece))
  pub within : length reads.before ≤ old.room
