pub mod PlacementLaws
pub mod NearLaws
