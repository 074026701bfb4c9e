-- What a decoder is once a frame that it lent is let go. This project's own.
--     Leaves   what a decoder holds once what it lent is given back
use Rattle.std.specs.Prelude.{ℕ, List}
use Rattle.std.specs.Borrow.{MutBor, Fml}
use Rattle.std.specs.Io.BufRead.{Rests}
use Rattle.xds_frames.specs.contracts.decoder.Decoder.{the_row}

abbrev pub Leaves : MutBor (List ℕ) → (List ℕ → Type 0) → Fml
Leaves decoder P = Rests the_row decoder P
