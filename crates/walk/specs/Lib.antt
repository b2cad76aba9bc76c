-- Document 01, "Pairs, folds, ends": faces, pairs, the fold test, the fold, the walk and the output, over any arithmetic.
pub mod Faces
pub mod Pairs
pub mod FoldTest
pub mod Fold
pub mod Walk
pub mod Closings
pub mod Output
pub mod Sound
pub mod Clauses
