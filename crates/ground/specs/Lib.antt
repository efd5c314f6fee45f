-- `Layers`: what a layer and a file measure (RULES 7.3, 7.4, 8.4). `Standing`: on which rules it stands that no ground is lost (RULES 7.5).
pub mod Layers
pub mod Standing
