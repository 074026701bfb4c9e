mod Cutting
mod Finding
mod RulesLining
mod Orderly
pub mod Traces
mod OneMeaning
mod OneTrace
mod OneLine
mod LineTexts
mod AnswerTexts
pub mod OneVerdict
mod Marking
mod Waiting
pub mod Talking
mod Lining
mod Deciding
mod Passing
mod StreamChanges
mod LiveNames
mod LineByLine
mod PieceByPiece
