-- The number of each refusal of filing. Assumes nothing.
use Rattle.std.specs.Prelude.{ℕ}
use Rattle.task.specs.declared.refusals.PieceRefusal.{PieceRefusal}
use Rattle.task.specs.declared.refusals.PieceRefusal.TheVariants.{Full, Worst}
use Rattle.task.specs.declared.refusals.EdgeRefusal.{EdgeRefusal}
use Rattle.task.specs.declared.refusals.EdgeRefusal.TheVariants.{OffTask, There, Circular}
use Rattle.task.specs.declared.refusals.RankingRefusal.{RankingRefusal}
use Rattle.task.specs.declared.refusals.RankingRefusal.TheVariants.{Count}

abbrev pub piece_number : PieceRefusal → ℕ
piece_number Full = 11
piece_number Worst = 12

abbrev pub edge_number : EdgeRefusal → ℕ
edge_number OffTask = 21
edge_number There = 22
edge_number Circular = 23

abbrev pub ranking_number : RankingRefusal → ℕ
ranking_number Count = 13
