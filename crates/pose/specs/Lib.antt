pub mod Pose
pub mod PoseCode
