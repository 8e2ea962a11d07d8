-- What a list of callbacks is seen as.
use Rattle.std.specs.Prelude.{ℕ, List}
use Rattle.kc_base.specs.declared.callback_list.Callback.{Callback}

-- the callbacks that are on the list, and how many more it takes without memory
pub record Handed (F : Type 0) : Type 0 where
  pub list : List (Callback F)
  pub spare : ℕ
